use Rattle.save_point.proofs.UndoEnds as lemmas
use Rattle.save_point.proofs.laws.backs_end.Goals as goal

pub returns : goal.returns
returns c = lemmas.backs_end
