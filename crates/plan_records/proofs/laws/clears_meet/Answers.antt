use Rattle.plan_records.proofs.HeapClears as lemmas
use Rattle.plan_records.proofs.laws.clears_meet.Goals as goal

pub returns : goal.returns
returns c = lemmas.clears_meet
