use Rattle.save_point.proofs.Newest as lemmas
use Rattle.save_point.proofs.laws.undoing_restores.Goals as goal

pub returns : goal.returns
returns c = lemmas.undoing_restores
