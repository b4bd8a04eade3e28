use Rattle.bucket_log.proofs.PartWords as lemmas
use Rattle.bucket_log.proofs.laws.appends_are_on_part.Goals as goal

pub returns : goal.returns
returns c = lemmas.appends_are_on_part
