use Rattle.bucket_log.proofs.Appended as lemmas
use Rattle.bucket_log.proofs.laws.next_places_take.Goals as goal

pub returns : goal.returns
returns c = lemmas.next_places_take
