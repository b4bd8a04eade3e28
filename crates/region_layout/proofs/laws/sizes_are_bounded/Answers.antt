use Rattle.region_layout.proofs.Places.{sizes_bounded}
use Rattle.region_layout.proofs.laws.sizes_are_bounded.Goals as goal

pub returns : goal.returns
returns c = sizes_bounded
