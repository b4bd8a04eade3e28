use Rattle.region_layout.proofs.Parts.{parts_apart}
use Rattle.region_layout.proofs.laws.parts_are_apart.Goals as goal

pub returns : goal.returns
returns c = parts_apart
