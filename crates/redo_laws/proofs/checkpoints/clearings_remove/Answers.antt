use Rattle.redo_laws.proofs.Clearings as lemmas
use Rattle.redo_laws.proofs.checkpoints.clearings_remove.Goals as goal

pub returns : goal.returns
returns c = lemmas.clearings_remove
