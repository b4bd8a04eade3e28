use Rattle.redo_laws.proofs.Removing as lemmas
use Rattle.redo_laws.proofs.parts.removals_settle.Goals as goal

pub returns : goal.returns
returns c = lemmas.removals_settle
