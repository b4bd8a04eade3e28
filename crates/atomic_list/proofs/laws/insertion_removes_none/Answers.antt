use Rattle.atomic_list.proofs.Closings.{insertion_removes_none}
use Rattle.atomic_list.proofs.laws.insertion_removes_none.Goals as goal

pub returns : goal.returns
returns c = insertion_removes_none
