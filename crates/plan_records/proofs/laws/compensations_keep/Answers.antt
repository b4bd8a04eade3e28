use Rattle.plan_records.proofs.Records as lemmas
use Rattle.plan_records.proofs.laws.compensations_keep.Goals as goal

pub returns : goal.returns
returns c = lemmas.compensations_keep
