use Rattle.region_layout.proofs.CellsLaws.{by_blocks}
use Rattle.region_layout.proofs.laws.cells_depend_on_their_blocks.Goals as goal

pub returns : goal.returns
returns c = by_blocks
