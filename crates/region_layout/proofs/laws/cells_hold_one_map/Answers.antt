use Rattle.region_layout.proofs.CellsLaws.{one_map}
use Rattle.region_layout.proofs.laws.cells_hold_one_map.Goals as goal

pub returns : goal.returns
returns c = one_map
