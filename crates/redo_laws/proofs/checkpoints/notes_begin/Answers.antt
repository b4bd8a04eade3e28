use Rattle.redo_laws.proofs.Noting as lemmas
use Rattle.redo_laws.proofs.checkpoints.notes_begin.Goals as goal

pub returns : goal.returns
returns c = lemmas.notes_begin
