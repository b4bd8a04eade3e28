use Rattle.txn_laws.proofs.Taking as lemmas
use Rattle.txn_laws.proofs.laws.takes_keep.Goals as goal

pub returns : goal.returns
returns c = lemmas.takes_keep
