use Rattle.redo_laws.proofs.Clearing as lemmas
use Rattle.redo_laws.proofs.checkpoints.groups_begin.Goals as goal

pub returns : goal.returns
returns c = lemmas.groups_begin
