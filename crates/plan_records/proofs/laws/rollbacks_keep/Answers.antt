use Rattle.plan_records.proofs.Records as lemmas
use Rattle.plan_records.proofs.laws.rollbacks_keep.Goals as goal

pub returns : goal.returns
returns c = lemmas.rollbacks_keep
