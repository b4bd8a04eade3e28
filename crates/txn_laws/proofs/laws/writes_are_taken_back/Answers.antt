use Rattle.txn_laws.proofs.Storing as lemmas
use Rattle.txn_laws.proofs.laws.writes_are_taken_back.Goals as goal

pub returns : goal.returns
returns c = lemmas.writes_are_taken_back
