use Rattle.redo_laws.proofs.Zeroing as lemmas
use Rattle.redo_laws.proofs.checkpoints.zeros_are_fenced.Goals as goal

pub returns : goal.returns
returns c = lemmas.zeros_are_fenced
