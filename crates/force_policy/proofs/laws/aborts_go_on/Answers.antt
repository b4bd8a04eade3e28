use Rattle.force_policy.proofs.Courses as lemmas
use Rattle.force_policy.proofs.laws.aborts_go_on.Goals as goal

pub returns : goal.returns
returns c = lemmas.aborts_go_on
