use Rattle.log_keeper.proofs.LastChanges as lemmas
use Rattle.log_keeper.proofs.laws.changes_are_settled.Goals as goal

pub returns : goal.returns
returns c = lemmas.changes_are_settled
