use Rattle.plan_records.proofs.HeapImages as lemmas
use Rattle.plan_records.proofs.laws.commits_leave.Goals as goal

pub returns : goal.returns
returns c = lemmas.commits_leave
