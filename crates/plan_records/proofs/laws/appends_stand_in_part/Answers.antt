use Rattle.plan_records.proofs.Beside as lemmas
use Rattle.plan_records.proofs.laws.appends_stand_in_part.Goals as goal

pub returns : goal.returns
returns c = lemmas.appends_stand_in_part
