use Rattle.atomic_list.proofs.Insertions.{insertion_is_on_list}
use Rattle.atomic_list.proofs.laws.insertion_is_on_list.Goals as goal

pub returns : goal.returns
returns c = insertion_is_on_list
