use Rattle.atomic_list.proofs.Insertions.{insertion_images}
use Rattle.atomic_list.proofs.laws.each_inserting_image.Goals as goal

pub returns : goal.returns
returns c = λ shape p w v xs a k can r. insertion_images shape p w xs a can v k r
