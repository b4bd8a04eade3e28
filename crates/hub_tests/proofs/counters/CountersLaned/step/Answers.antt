use Rattle.std.proofs.Common.{arith}
use Rattle.hub_tests.proofs.Steps.{first_stepped, second_stepped}
use Rattle.hub_tests.proofs.counters.CountersLaned.step.Goals as goal

pub returns-then-lane-eq0 : goal.returns-then-lane-eq0
returns-then-lane-eq0 c = first_stepped _ _ _ _ _ c.args.lane _ (omega (arith, c.if-lane-eq0.true)) c.step-answer.ensures.answer c.step-answer.ensures.after c.changed-self.ensures

pub returns-else-lane-eq0 : goal.returns-else-lane-eq0
returns-else-lane-eq0 c = second_stepped _ _ _ _ _ c.args.lane _ (omega (arith, c.requires, c.if-lane-eq0.false)) c.step-answer-else-lane-eq0.ensures.answer c.step-answer-else-lane-eq0.ensures.after c.changed-self-else-lane-eq0.ensures
