use Rattle.plan_records.proofs.AbortCourse as lemmas
use Rattle.plan_records.proofs.laws.aborts_go_on.Goals as goal

pub returns : goal.returns
returns c = lemmas.aborts_go_on
