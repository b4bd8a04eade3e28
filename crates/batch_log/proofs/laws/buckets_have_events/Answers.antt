use Rattle.batch_log.proofs.GroupEvents as lemmas
use Rattle.batch_log.proofs.laws.buckets_have_events.Goals as goal

pub returns : goal.returns
returns c = lemmas.buckets_have_events
