use Rattle.redo_laws.proofs.Zeroing as lemmas
use Rattle.redo_laws.proofs.checkpoints.owners_are_zeroed.Goals as goal

pub returns : goal.returns
returns c = lemmas.owners_are_zeroed
