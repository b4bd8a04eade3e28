use Rattle.txn_laws.proofs.Storing as lemmas
use Rattle.txn_laws.proofs.laws.gifts_are_zeroed.Goals as goal

pub returns : goal.returns
returns c = lemmas.gifts_are_zeroed
