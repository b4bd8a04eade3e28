use Rattle.plan_records.proofs.WriteCourse as lemmas
use Rattle.plan_records.proofs.laws.gives_go_on.Goals as goal

pub returns : goal.returns
returns c = lemmas.gives_go_on
