use Rattle.log_keeper.proofs.EventsPass as lemmas
use Rattle.log_keeper.proofs.laws.regions_start.Goals as goal

pub returns : goal.returns
returns c = lemmas.regions_start
