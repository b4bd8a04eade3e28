use Rattle.log_keeper.proofs.Starts as lemmas
use Rattle.log_keeper.proofs.laws.keepers_start.Goals as goal

pub returns : goal.returns
returns c = lemmas.keepers_start
