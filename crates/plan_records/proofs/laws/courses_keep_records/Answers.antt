use Rattle.plan_records.proofs.Going as lemmas
use Rattle.plan_records.proofs.laws.courses_keep_records.Goals as goal

pub returns : goal.returns
returns c = lemmas.courses_keep_records
