use Rattle.std.proofs.Common.{◌<◌, All, take}
use Rattle.log_tests.proofs.recovery_tests.are_below.Given as goal

abbrev pub invariant-loop-gate : goal.invariant-loop-gate
invariant-loop-gate l = All (λ a. a < l.size) (take l.gate-index l.gates)
