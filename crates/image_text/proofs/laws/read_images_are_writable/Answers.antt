use Rattle.image_text.proofs.Bounds.{read_is_writable}
use Rattle.image_text.proofs.laws.read_images_are_writable.Goals as goal

pub returns : goal.returns
returns c = read_is_writable
