use Rattle.txn_laws.proofs.Storing as lemmas
use Rattle.txn_laws.proofs.laws.fences_keep.Goals as goal

pub returns : goal.returns
returns c = lemmas.fences_keep
