use Rattle.atomic_list.proofs.OnList.{list_settles}
use Rattle.atomic_list.proofs.laws.list_settles.Goals as goal

pub returns : goal.returns
returns c = list_settles
