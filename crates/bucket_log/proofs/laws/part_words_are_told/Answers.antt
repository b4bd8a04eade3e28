use Rattle.bucket_log.proofs.PartWords as lemmas
use Rattle.bucket_log.proofs.laws.part_words_are_told.Goals as goal

pub returns : goal.returns
returns c = lemmas.part_words_are_told
