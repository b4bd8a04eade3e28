use Rattle.atomic_list.proofs.Removals.{removal_images}
use Rattle.atomic_list.proofs.laws.each_removing_image.Goals as goal

pub returns : goal.returns
returns c = λ shape p w v front rest r k can h. removal_images shape p w front rest r can v k h
