use Rattle.redo_laws.proofs.Beginning as lemmas
use Rattle.redo_laws.proofs.steps.begins_keep.Goals as goal

pub returns : goal.returns
returns c = lemmas.begins_keep
