use Rattle.std.proofs.Common.{slice_index}
use Rattle.image_runner.specs.Cells.{AreCellsBelow}
use Rattle.image_runner.proofs.cells.pairs_of_cells.Given as goal

abbrev pub invariant-loop-key : goal.invariant-loop-key
invariant-loop-key g l = AreCellsBelow l.key (slice_index (g.L.Look.words l.words)) l.root l.pairs
