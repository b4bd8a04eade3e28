use Rattle.std.proofs.Common.{length}
use Rattle.recovery_analysis.proofs.Runs.{IsCut}
use Rattle.recovery_analysis.proofs.grouping.cut.Given as goal

abbrev pub invariant-loop-rest : goal.invariant-loop-rest
invariant-loop-rest l = IsCut l.made l.rest l.sorted

abbrev pub decreases-loop-rest : goal.decreases-loop-rest
decreases-loop-rest l = length l.rest
