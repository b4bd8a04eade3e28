use Rattle.plan_records.proofs.HeapWrites as lemmas
use Rattle.plan_records.proofs.laws.writes_settle.Goals as goal

pub returns : goal.returns
returns c = lemmas.writes_settle
