use Rattle.redo_laws.proofs.Sweeping as lemmas
use Rattle.redo_laws.proofs.checkpoints.words_are_written_back.Goals as goal

pub returns : goal.returns
returns c = lemmas.words_are_written_back
