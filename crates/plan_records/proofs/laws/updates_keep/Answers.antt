use Rattle.plan_records.proofs.Records as lemmas
use Rattle.plan_records.proofs.laws.updates_keep.Goals as goal

pub returns : goal.returns
returns c = lemmas.updates_keep
