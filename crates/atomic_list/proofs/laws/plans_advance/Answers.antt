use Rattle.atomic_list.proofs.OnList.{plans_advance}
use Rattle.atomic_list.proofs.laws.plans_advance.Goals as goal

pub returns : goal.returns
returns c = plans_advance
