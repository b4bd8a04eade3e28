use Rattle.plan_records.proofs.HeapImages as lemmas
use Rattle.plan_records.proofs.laws.clears_leave.Goals as goal

pub returns : goal.returns
returns c = lemmas.clears_leave
