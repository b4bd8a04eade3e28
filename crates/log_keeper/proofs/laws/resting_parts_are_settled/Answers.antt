use Rattle.log_keeper.proofs.EventsPass as lemmas
use Rattle.log_keeper.proofs.laws.resting_parts_are_settled.Goals as goal

pub returns : goal.returns
returns c = lemmas.resting_parts_are_settled
