use Rattle.save_point.proofs.Newest as lemmas
use Rattle.save_point.proofs.laws.stores_undo.Goals as goal

pub returns : goal.returns
returns c = lemmas.stores_undo
