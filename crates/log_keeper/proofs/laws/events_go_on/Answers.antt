use Rattle.log_keeper.proofs.Made as lemmas
use Rattle.log_keeper.proofs.laws.events_go_on.Goals as goal

pub returns : goal.returns
returns c = lemmas.events_go_on
