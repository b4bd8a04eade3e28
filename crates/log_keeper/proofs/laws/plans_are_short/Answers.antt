use Rattle.log_keeper.proofs.PlanSizes as lemmas
use Rattle.log_keeper.proofs.laws.plans_are_short.Goals as goal

pub returns : goal.returns
returns c = lemmas.plans_are_short
