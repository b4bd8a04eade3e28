use Rattle.bucket_log.proofs.Appended as lemmas
use Rattle.bucket_log.proofs.laws.each_image_of_appends.Goals as goal

pub returns : goal.returns
returns c = lemmas.each_image_of_appends
