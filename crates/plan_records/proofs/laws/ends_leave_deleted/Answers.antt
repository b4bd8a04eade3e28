use Rattle.plan_records.proofs.Beside as lemmas
use Rattle.plan_records.proofs.laws.ends_leave_deleted.Goals as goal

pub returns : goal.returns
returns c = lemmas.ends_leave_deleted
