use Rattle.plan_records.proofs.HeapUpdates as lemmas
use Rattle.plan_records.proofs.laws.olds_meet.Goals as goal

pub returns : goal.returns
returns c = lemmas.olds_meet
