use Rattle.save_point.proofs.UndoImages as lemmas
use Rattle.save_point.proofs.laws.backs_keep.Goals as goal

pub returns : goal.returns
returns c = lemmas.backs_keep
