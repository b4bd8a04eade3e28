use Rattle.noforce_policy.proofs.Sweeps as lemmas
use Rattle.noforce_policy.proofs.laws.swept_words_settle.Goals as goal

pub returns : goal.returns
returns c = lemmas.swept_words_settle
