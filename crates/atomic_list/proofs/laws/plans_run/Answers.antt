use Rattle.atomic_list.proofs.OnList.{plans_run}
use Rattle.atomic_list.proofs.laws.plans_run.Goals as goal

pub returns : goal.returns
returns c = plans_run
