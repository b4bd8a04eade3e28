use Rattle.redo_laws.proofs.FencingGroups as lemmas
use Rattle.redo_laws.proofs.checkpoints.groups_are_fenced.Goals as goal

pub returns : goal.returns
returns c = lemmas.groups_are_fenced
