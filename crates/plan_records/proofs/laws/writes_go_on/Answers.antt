use Rattle.plan_records.proofs.WriteCourse as lemmas
use Rattle.plan_records.proofs.laws.writes_go_on.Goals as goal

pub returns : goal.returns
returns c = lemmas.writes_go_on
