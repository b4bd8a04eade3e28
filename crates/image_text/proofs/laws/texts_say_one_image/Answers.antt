use Rattle.image_text.proofs.Meanings.{says_one_image}
use Rattle.image_text.proofs.laws.texts_say_one_image.Goals as goal

pub returns : goal.returns
returns c = says_one_image
