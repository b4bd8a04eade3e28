use Rattle.noforce_policy.proofs.BackedImages as lemmas
use Rattle.noforce_policy.proofs.laws.backed_updates_meet.Goals as goal

pub returns : goal.returns
returns c = lemmas.backed_updates_meet c.olds_meet.ensures
