use Rattle.redo_laws.proofs.Standing as lemmas
use Rattle.redo_laws.proofs.laws.worlds_stand.Goals as goal

pub returns : goal.returns
returns c = lemmas.worlds_stand
