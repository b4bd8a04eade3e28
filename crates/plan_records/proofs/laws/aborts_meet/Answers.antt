use Rattle.plan_records.proofs.HeapAborts as lemmas
use Rattle.plan_records.proofs.laws.aborts_meet.Goals as goal

pub returns : goal.returns
returns c = lemmas.aborts_meet
