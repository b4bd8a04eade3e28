use Rattle.std.proofs.Common.{sym, ◌∙◌}
use Rattle.turn_hub.proofs.Runs.{still, one_step}
use Rattle.turn_hub.proofs.hub.Hub.poll_on.Goals as goal

pub returns-in-Busy-clause-on : goal.returns-in-Busy-clause-on
returns-in-Busy-clause-on g c = λ _. still _ _ _ c.in-Busy.ensures.busy

pub returns-then-goes_on-clause-on : goal.returns-then-goes_on-clause-on
returns-then-goes_on-clause-on g c = λ _. one_step _ _ _ c.in-Stepped.answer c.in-Stepped.ensures.stepped (sym c.goes_on.ensures ∙ c.if-goes_on.true)
