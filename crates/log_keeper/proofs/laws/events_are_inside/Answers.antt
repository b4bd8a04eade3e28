use Rattle.log_keeper.proofs.PlanSizes as lemmas
use Rattle.log_keeper.proofs.laws.events_are_inside.Goals as goal

pub returns : goal.returns
returns c = lemmas.events_are_inside
