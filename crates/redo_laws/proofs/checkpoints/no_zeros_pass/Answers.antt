use Rattle.redo_laws.proofs.Zeroing as lemmas
use Rattle.redo_laws.proofs.checkpoints.no_zeros_pass.Goals as goal

pub returns : goal.returns
returns c = lemmas.no_zeros_pass
