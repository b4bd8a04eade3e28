use Rattle.redo_laws.proofs.Ending as lemmas
use Rattle.redo_laws.proofs.parts.appends_settle.Goals as goal

pub returns : goal.returns
returns c = lemmas.appends_settle
