use Rattle.bucket_log.proofs.Appended as lemmas
use Rattle.bucket_log.proofs.laws.each_appending_image.Goals as goal

pub returns : goal.returns
returns c = lemmas.each_appending_image
