use Rattle.atomic_list.proofs.Removals.{removal_ends}
use Rattle.atomic_list.proofs.laws.removal_ends.Goals as goal

pub returns : goal.returns
returns c = removal_ends
