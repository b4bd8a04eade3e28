use Rattle.atomic_list.proofs.OnList.{plans_stay}
use Rattle.atomic_list.proofs.laws.plans_stay.Goals as goal

pub returns : goal.returns
returns c = plans_stay
