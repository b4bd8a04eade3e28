use Rattle.atomic_list.proofs.Repairs.{repair_ends}
use Rattle.atomic_list.proofs.laws.repair_ends.Goals as goal

pub returns : goal.returns
returns c = repair_ends
