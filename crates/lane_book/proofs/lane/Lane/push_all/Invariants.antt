use Rattle.lane_book.proofs.Pushing.{ArePushed}
use Rattle.lane_book.proofs.lane.Lane.push_all.Given as goal

abbrev pub invariant-loop-write : goal.invariant-loop-write
invariant-loop-write g l = ArePushed l.initial.self l.self l.writes l.write-index
