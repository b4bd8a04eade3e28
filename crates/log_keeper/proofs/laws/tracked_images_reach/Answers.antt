use Rattle.log_keeper.proofs.EventsPass as lemmas
use Rattle.log_keeper.proofs.laws.tracked_images_reach.Goals as goal

pub returns : goal.returns
returns c = lemmas.tracked_images_reach
