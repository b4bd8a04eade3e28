use Rattle.std.proofs.Common.{take}
use Rattle.std.specs.Prelude.{slice_index}
use Rattle.log_tests.specs.Walked.{Walked}
use Rattle.log_tests.proofs.checks.walked.Given as goal

abbrev pub invariant-loop-x : goal.invariant-loop-x
invariant-loop-x g l = Walked (slice_index (g.W.Look.words l.words)) l.from l.before (take l.x-index l.chain) l.link l.last
