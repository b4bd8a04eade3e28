use Rattle.noforce_policy.proofs.BackedImages as lemmas
use Rattle.noforce_policy.proofs.laws.updates_leave.Goals as goal

pub returns : goal.returns
returns c = lemmas.updates_leave c.olds_meet.ensures
