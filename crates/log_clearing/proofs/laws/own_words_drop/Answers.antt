use Rattle.log_clearing.proofs.PartPlans as lemmas
use Rattle.log_clearing.proofs.laws.own_words_drop.Goals as goal

pub returns : goal.returns
returns c = lemmas.own_words_drop
