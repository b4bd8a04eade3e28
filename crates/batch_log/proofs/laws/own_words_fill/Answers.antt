use Rattle.batch_log.proofs.BucketLaws as lemmas
use Rattle.batch_log.proofs.laws.own_words_fill.Goals as goal

pub returns : goal.returns
returns c = lemmas.own_words_fill
