use Rattle.plan_records.proofs.HeapWrites as lemmas
use Rattle.plan_records.proofs.laws.steps_stay.Goals as goal

pub returns : goal.returns
returns c = lemmas.steps_stay
