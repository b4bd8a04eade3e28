use Rattle.redo_laws.proofs.Noting as lemmas
use Rattle.redo_laws.proofs.checkpoints.notes_go_on.Goals as goal

pub returns : goal.returns
returns c = lemmas.notes_go_on
