use Rattle.redo_laws.proofs.Reading as lemmas
use Rattle.redo_laws.proofs.laws.unowned_read.Goals as goal

pub returns : goal.returns
returns c = lemmas.unowned_read
