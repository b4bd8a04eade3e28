use Rattle.image_text.proofs.Meanings.{breaks_nowhere}
use Rattle.image_text.proofs.laws.image_texts_break_nowhere.Goals as goal

pub returns : goal.returns
returns c = breaks_nowhere
