use Rattle.atomic_list.proofs.Removals.{removal_is_on_list}
use Rattle.atomic_list.proofs.laws.removal_is_on_list.Goals as goal

pub returns : goal.returns
returns c = removal_is_on_list
