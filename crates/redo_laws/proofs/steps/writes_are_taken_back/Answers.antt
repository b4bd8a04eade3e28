use Rattle.redo_laws.proofs.Storing as lemmas
use Rattle.redo_laws.proofs.steps.writes_are_taken_back.Goals as goal

pub returns : goal.returns
returns c = lemmas.writes_are_taken_back
