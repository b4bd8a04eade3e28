use Rattle.redo_laws.proofs.Starting as lemmas
use Rattle.redo_laws.proofs.laws.worlds_start.Goals as goal

pub returns : goal.returns
returns c = lemmas.worlds_start
