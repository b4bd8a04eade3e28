use Rattle.log_keeper.proofs.Steps as lemmas
use Rattle.log_keeper.proofs.laws.last_events_end.Goals as goal

pub returns : goal.returns
returns c = lemmas.last_events_end
