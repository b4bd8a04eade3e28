use Rattle.world_tests.specs.Keeping.{KeepsPlace}
use Rattle.world_tests.proofs.laned.to_answer.Given as goal

abbrev pub invariant-loop : goal.invariant-loop
invariant-loop g l = KeepsPlace l.lane (g.T.Laned.seen l.initial.value) (g.T.Laned.seen l.value)
