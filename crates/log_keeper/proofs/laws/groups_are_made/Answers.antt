use Rattle.log_keeper.proofs.Made as lemmas
use Rattle.log_keeper.proofs.laws.groups_are_made.Goals as goal

pub returns : goal.returns
returns c = lemmas.groups_are_made
