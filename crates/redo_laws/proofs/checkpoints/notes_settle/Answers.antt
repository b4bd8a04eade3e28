use Rattle.redo_laws.proofs.Noted as lemmas
use Rattle.redo_laws.proofs.checkpoints.notes_settle.Goals as goal

pub returns : goal.returns
returns c = lemmas.notes_settle
