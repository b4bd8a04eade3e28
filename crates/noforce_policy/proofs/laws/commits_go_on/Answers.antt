use Rattle.noforce_policy.proofs.Courses as lemmas
use Rattle.noforce_policy.proofs.laws.commits_go_on.Goals as goal

pub returns : goal.returns
returns c = lemmas.commits_go_on
