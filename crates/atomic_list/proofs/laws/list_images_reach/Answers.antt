use Rattle.atomic_list.proofs.OnList.{list_images_reach}
use Rattle.atomic_list.proofs.laws.list_images_reach.Goals as goal

pub returns : goal.returns
returns c = list_images_reach
