use Rattle.save_point.proofs.UndoRecords as lemmas
use Rattle.save_point.proofs.laws.records_undo.Goals as goal

pub returns : goal.returns
returns c = lemmas.records_undo
