use Rattle.plan_records.proofs.Records as lemmas
use Rattle.plan_records.proofs.laws.deletions_keep.Goals as goal

pub returns : goal.returns
returns c = lemmas.deletions_keep
