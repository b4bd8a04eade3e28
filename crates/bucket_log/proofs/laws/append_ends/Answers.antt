use Rattle.bucket_log.proofs.Appended as lemmas
use Rattle.bucket_log.proofs.laws.append_ends.Goals as goal

pub returns : goal.returns
returns c = lemmas.append_ends
