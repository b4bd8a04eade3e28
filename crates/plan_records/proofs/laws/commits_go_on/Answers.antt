use Rattle.plan_records.proofs.CommitCourse as lemmas
use Rattle.plan_records.proofs.laws.commits_go_on.Goals as goal

pub returns : goal.returns
returns c = lemmas.commits_go_on
