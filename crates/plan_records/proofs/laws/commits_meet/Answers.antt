use Rattle.plan_records.proofs.HeapCommits as lemmas
use Rattle.plan_records.proofs.laws.commits_meet.Goals as goal

pub returns : goal.returns
returns c = lemmas.commits_meet
