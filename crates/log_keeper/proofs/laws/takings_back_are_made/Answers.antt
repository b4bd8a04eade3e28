use Rattle.log_keeper.proofs.Made as lemmas
use Rattle.log_keeper.proofs.laws.takings_back_are_made.Goals as goal

pub returns : goal.returns
returns c = lemmas.takings_back_are_made
