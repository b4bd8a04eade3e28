use Rattle.redo_laws.proofs.Ending as lemmas
use Rattle.redo_laws.proofs.parts.latches_keep.Goals as goal

pub returns : goal.returns
returns c = lemmas.latches_keep
