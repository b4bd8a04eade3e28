use Rattle.noforce_policy.proofs.Checkpoints as lemmas
use Rattle.noforce_policy.proofs.laws.checkpoints_serve.Goals as goal

pub returns : goal.returns
returns c = lemmas.checkpoints_serve
