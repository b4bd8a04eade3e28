use Rattle.lane_book.proofs.Strange.{AreLeft}
use Rattle.lane_book.proofs.refusals.strange_word.Given as goal

abbrev pub invariant-loop-write : goal.invariant-loop-write
invariant-loop-write g l = AreLeft l.layout l.blocks l.lane l.writes l.write-index
