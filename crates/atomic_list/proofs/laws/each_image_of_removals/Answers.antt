use Rattle.atomic_list.specs.Plans.{removal}
use Rattle.atomic_list.proofs.OnList.{run_images}
use Rattle.atomic_list.proofs.Removals.{removal_images, removal_is_on_list}
use Rattle.atomic_list.proofs.laws.each_image_of_removals.Goals as goal

pub returns : goal.returns
returns c = λ shape p lane w i front rest r k before region can settled run inside image.
    removal_images shape p w front rest r can i k
    (run_images shape p lane w i (removal r) k before region (removal_is_on_list shape p w front rest r can) settled run inside image)
