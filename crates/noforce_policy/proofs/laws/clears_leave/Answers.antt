use Rattle.noforce_policy.proofs.BackedImages as lemmas
use Rattle.noforce_policy.proofs.laws.clears_leave.Goals as goal

pub returns : goal.returns
returns c = lemmas.clears_leave
