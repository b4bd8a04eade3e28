use Rattle.bucket_log.proofs.Appended as lemmas
use Rattle.bucket_log.proofs.laws.appends_wait.Goals as goal

pub returns : goal.returns
returns c = lemmas.appends_wait
