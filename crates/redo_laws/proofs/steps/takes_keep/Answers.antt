use Rattle.redo_laws.proofs.Taking as lemmas
use Rattle.redo_laws.proofs.steps.takes_keep.Goals as goal

pub returns : goal.returns
returns c = lemmas.takes_keep
