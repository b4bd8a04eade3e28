use Rattle.log_keeper.proofs.PlanSizes as lemmas
use Rattle.log_keeper.proofs.laws.parts_fit_layouts.Goals as goal

pub returns : goal.returns
returns c = lemmas.parts_fit_layouts
