use Rattle.log_keeper.proofs.EventsPass as lemmas
use Rattle.log_keeper.proofs.laws.images_are_reached.Goals as goal

pub returns : goal.returns
returns c = lemmas.images_are_reached
