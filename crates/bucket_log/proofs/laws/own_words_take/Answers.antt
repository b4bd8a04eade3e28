use Rattle.bucket_log.proofs.PartWords as lemmas
use Rattle.bucket_log.proofs.laws.own_words_take.Goals as goal

pub returns : goal.returns
returns c = lemmas.own_words_take
