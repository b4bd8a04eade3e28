use Rattle.noforce_policy.proofs.BackedImages as lemmas
use Rattle.noforce_policy.proofs.laws.checkpoints_leave.Goals as goal

pub returns : goal.returns
returns c = lemmas.checkpoints_leave
