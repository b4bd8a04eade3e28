use Rattle.region_layout.proofs.Cells.{cells_are_records}
use Rattle.region_layout.proofs.laws.cells_are_records.Goals as goal

pub returns : goal.returns
returns c = cells_are_records
