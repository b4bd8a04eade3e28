use Rattle.image_text.proofs.Meanings.{has_meaning}
use Rattle.image_text.proofs.laws.texts_have_meanings.Goals as goal

pub returns : goal.returns
returns c = has_meaning
