use Rattle.save_point.proofs.Savepoints as lemmas
use Rattle.save_point.proofs.laws.backs_are_there.Goals as goal

pub returns : goal.returns
returns c = lemmas.backs_are_there
