use Rattle.redo_laws.proofs.TakingBack as lemmas
use Rattle.redo_laws.proofs.parts.takings_back_end.Goals as goal

pub returns : goal.returns
returns c = lemmas.takings_back_end
