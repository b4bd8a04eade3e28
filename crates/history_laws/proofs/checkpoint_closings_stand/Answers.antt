use Rattle.history_laws.proofs.Checkpoints as lemmas
use Rattle.history_laws.proofs.checkpoint_closings_stand.Goals as goal

pub returns : goal.returns
returns c = lemmas.checkpoint_closings_stand
