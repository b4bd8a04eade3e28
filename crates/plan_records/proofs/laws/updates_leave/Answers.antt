use Rattle.plan_records.proofs.HeapImages as lemmas
use Rattle.plan_records.proofs.laws.updates_leave.Goals as goal

pub returns : goal.returns
returns c = lemmas.updates_leave
