use Rattle.atomic_list.proofs.Insertions.{insertion_ends}
use Rattle.atomic_list.proofs.laws.insertion_ends.Goals as goal

pub returns : goal.returns
returns c = insertion_ends
