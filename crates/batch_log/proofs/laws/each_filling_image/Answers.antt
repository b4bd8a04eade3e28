use Rattle.batch_log.proofs.BucketLaws as lemmas
use Rattle.batch_log.proofs.laws.each_filling_image.Goals as goal

pub returns : goal.returns
returns c = lemmas.each_filling_image
