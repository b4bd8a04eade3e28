use Rattle.noforce_policy.proofs.Backed as lemmas
use Rattle.noforce_policy.proofs.laws.changed_words_are_own.Goals as goal

pub returns : goal.returns
returns c = lemmas.changed_words_are_own
