use Rattle.log_laws.proofs.Recovering.{each_image_keeps}
use Rattle.log_laws.proofs.each_image_keeps.Goals as goal

pub returns : goal.returns
returns c = each_image_keeps
