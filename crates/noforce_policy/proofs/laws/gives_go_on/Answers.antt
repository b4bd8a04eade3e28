use Rattle.noforce_policy.proofs.Courses as lemmas
use Rattle.noforce_policy.proofs.laws.gives_go_on.Goals as goal

pub returns : goal.returns
returns c = lemmas.gives_go_on
