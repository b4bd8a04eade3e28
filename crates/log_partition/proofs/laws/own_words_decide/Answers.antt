use Rattle.log_partition.proofs.Views as lemmas
use Rattle.log_partition.proofs.laws.own_words_decide.Goals as goal

pub returns : goal.returns
returns c = lemmas.own_words_decide
