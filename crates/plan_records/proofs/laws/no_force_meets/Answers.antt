use Rattle.plan_records.proofs.HeapWrites as lemmas
use Rattle.plan_records.proofs.laws.no_force_meets.Goals as goal

pub returns : goal.returns
returns c = lemmas.no_force_meets
