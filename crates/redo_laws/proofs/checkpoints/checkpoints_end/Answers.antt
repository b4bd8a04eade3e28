use Rattle.redo_laws.proofs.Removing as lemmas
use Rattle.redo_laws.proofs.checkpoints.checkpoints_end.Goals as goal

pub returns : goal.returns
returns c = lemmas.checkpoints_end
