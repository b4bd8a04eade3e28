use Rattle.log_keeper.proofs.Made as lemmas
use Rattle.log_keeper.proofs.laws.all_latches_pass.Goals as goal

pub returns : goal.returns
returns c = lemmas.all_latches_pass
