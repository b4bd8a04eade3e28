use Rattle.plan_records.proofs.HeapWrites as lemmas
use Rattle.plan_records.proofs.laws.gives_settle.Goals as goal

pub returns : goal.returns
returns c = lemmas.gives_settle
