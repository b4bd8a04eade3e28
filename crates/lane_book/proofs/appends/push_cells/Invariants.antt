use Rattle.lane_book.proofs.PushedCells.{ArePut}
use Rattle.lane_book.proofs.appends.push_cells.Given as goal

abbrev pub invariant-loop-cell : goal.invariant-loop-cell
invariant-loop-cell l = ArePut l.initial.stock l.stock l.cells l.cell-index
