use Rattle.log_keeper.proofs.Steps as lemmas
use Rattle.log_keeper.proofs.laws.latches_pass.Goals as goal

pub returns : goal.returns
returns c = lemmas.latches_pass
