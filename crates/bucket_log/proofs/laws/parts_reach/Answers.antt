use Rattle.bucket_log.proofs.PartWords as lemmas
use Rattle.bucket_log.proofs.laws.parts_reach.Goals as goal

pub returns : goal.returns
returns c = lemmas.parts_reach
