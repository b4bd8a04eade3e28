use Rattle.plan_records.proofs.Beside as lemmas
use Rattle.plan_records.proofs.laws.others_keep_own.Goals as goal

pub returns : goal.returns
returns c = lemmas.others_keep_own
