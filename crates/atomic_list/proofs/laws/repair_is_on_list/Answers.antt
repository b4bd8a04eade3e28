use Rattle.atomic_list.proofs.Repairs.{repair_is_on_list}
use Rattle.atomic_list.proofs.laws.repair_is_on_list.Goals as goal

pub returns : goal.returns
returns c = repair_is_on_list
