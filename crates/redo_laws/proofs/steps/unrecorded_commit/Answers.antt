use Rattle.redo_laws.proofs.Beginning as lemmas
use Rattle.redo_laws.proofs.steps.unrecorded_commit.Goals as goal

pub returns : goal.returns
returns c = lemmas.unrecorded_commit
