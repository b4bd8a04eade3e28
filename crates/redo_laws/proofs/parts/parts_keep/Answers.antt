use Rattle.redo_laws.proofs.Ending as lemmas
use Rattle.redo_laws.proofs.parts.parts_keep.Goals as goal

pub returns : goal.returns
returns c = lemmas.parts_keep
