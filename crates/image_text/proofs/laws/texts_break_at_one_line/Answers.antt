use Rattle.image_text.proofs.Meanings.{breaks_at_one_line}
use Rattle.image_text.proofs.laws.texts_break_at_one_line.Goals as goal

pub returns : goal.returns
returns c = breaks_at_one_line
