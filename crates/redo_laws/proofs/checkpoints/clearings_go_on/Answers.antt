use Rattle.redo_laws.proofs.GoingClear as lemmas
use Rattle.redo_laws.proofs.checkpoints.clearings_go_on.Goals as goal

pub returns : goal.returns
returns c = lemmas.clearings_go_on
