use Rattle.noforce_policy.proofs.BackedImages as lemmas
use Rattle.noforce_policy.proofs.laws.swept_words_meet.Goals as goal

pub returns : goal.returns
returns c = lemmas.swept_words_meet
