use Rattle.atomic_list.proofs.OnList.{plans_begin}
use Rattle.atomic_list.proofs.laws.plans_begin.Goals as goal

pub returns : goal.returns
returns c = plans_begin
