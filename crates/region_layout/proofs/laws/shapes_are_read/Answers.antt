use Rattle.region_layout.proofs.Headers.{shapes_are_read}
use Rattle.region_layout.proofs.laws.shapes_are_read.Goals as goal

pub returns : goal.returns
returns c = shapes_are_read
