use Rattle.history_laws.proofs.Checkpoints as lemmas
use Rattle.history_laws.proofs.checkpoints_stand.Goals as goal

pub returns : goal.returns
returns c = lemmas.checkpoints_stand
