use Rattle.turn_hub.proofs.Steps.{touched_below}
use Rattle.turn_hub.proofs.hub.Hub.poll.Goals as goal

pub give_stepped-requires-clause-inside : goal.give_stepped-requires-clause-inside
give_stepped-requires-clause-inside g c = touched_below _ _ _ _ _ (g.met.T.Laned.agrees c.in-Some.value) c.step-answer.ensures
