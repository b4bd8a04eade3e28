use Rattle.atomic_list.proofs.Repairs.{repair_images}
use Rattle.atomic_list.proofs.laws.each_repairing_image.Goals as goal

pub returns : goal.returns
returns c = repair_images
