use Rattle.region_layout.proofs.Empty.{fresh_is_empty}
use Rattle.region_layout.proofs.laws.fresh_regions_are_empty.Goals as goal

pub returns : goal.returns
returns c = fresh_is_empty
