use Rattle.atomic_list.proofs.Insertions.{insertion_before}
use Rattle.atomic_list.proofs.laws.each_image_before.Goals as goal

pub returns : goal.returns
returns c = λ shape p w v xs a k can few r. insertion_before shape p w xs a can v k few r
