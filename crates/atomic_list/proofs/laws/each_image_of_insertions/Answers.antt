use Rattle.atomic_list.specs.Plans.{insertion}
use Rattle.atomic_list.proofs.OnList.{run_images}
use Rattle.atomic_list.proofs.Insertions.{insertion_images, insertion_is_on_list}
use Rattle.atomic_list.proofs.laws.each_image_of_insertions.Goals as goal

pub returns : goal.returns
returns c = λ shape p lane w i xs a k before region can settled run inside image.
    insertion_images shape p w xs a can i k
    (run_images shape p lane w i (insertion a) k before region (insertion_is_on_list shape p w xs a can) settled run inside image)
