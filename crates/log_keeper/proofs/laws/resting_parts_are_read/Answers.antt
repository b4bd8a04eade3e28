use Rattle.log_keeper.proofs.Reading as lemmas
use Rattle.log_keeper.proofs.laws.resting_parts_are_read.Goals as goal

pub returns : goal.returns
returns c = lemmas.resting_parts_are_read
