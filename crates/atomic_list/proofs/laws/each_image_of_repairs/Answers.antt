use Rattle.atomic_list.specs.Plans.{repair_plan, repair_asked}
use Rattle.atomic_list.proofs.OnList.{run_images}
use Rattle.atomic_list.proofs.Repairs.{repair_images, repair_is_on_list}
use Rattle.atomic_list.proofs.laws.each_image_of_repairs.Goals as goal

pub returns : goal.returns
returns c = λ shape p lane w i xs k before region is settled run inside image.
    repair_images shape p w i xs k is
    (run_images shape p lane w i (repair_plan (repair_asked w)) k before region (repair_is_on_list shape p w xs is) settled run inside image)
