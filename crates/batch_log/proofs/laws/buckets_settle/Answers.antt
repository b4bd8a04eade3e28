use Rattle.batch_log.proofs.BucketLaws as lemmas
use Rattle.batch_log.proofs.laws.buckets_settle.Goals as goal

pub returns : goal.returns
returns c = lemmas.buckets_settle
