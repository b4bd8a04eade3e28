use Rattle.log_keeper.proofs.EventsPass as lemmas
use Rattle.log_keeper.proofs.laws.parts_go_on.Goals as goal

pub returns : goal.returns
returns c = lemmas.parts_go_on
