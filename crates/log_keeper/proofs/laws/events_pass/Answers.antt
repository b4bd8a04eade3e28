use Rattle.log_keeper.proofs.EventsPass as lemmas
use Rattle.log_keeper.proofs.laws.events_pass.Goals as goal

pub returns : goal.returns
returns c = lemmas.events_pass
