use Rattle.plan_records.proofs.Records as lemmas
use Rattle.plan_records.proofs.laws.commit_ends_write.Goals as goal

pub returns : goal.returns
returns c = lemmas.commit_ends_write
