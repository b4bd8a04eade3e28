use Rattle.lane_worker.proofs.Choosing.{HasChosen}
use Rattle.lane_worker.proofs.worker.Worker.choose.Given as goal

abbrev pub invariant-loop-index : goal.invariant-loop-index
invariant-loop-index g l = HasChosen l.initial.self l.self (g.R.Reads.space l.reads) (g.R.Reads.readable l.reads) l.index
