use Rattle.bucket_log.proofs.AppendPlans as lemmas
use Rattle.bucket_log.proofs.laws.appends_have_events.Goals as goal

pub returns : goal.returns
returns c = lemmas.appends_have_events
