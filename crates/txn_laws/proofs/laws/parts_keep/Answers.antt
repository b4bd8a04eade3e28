use Rattle.txn_laws.proofs.GoingOn as lemmas
use Rattle.txn_laws.proofs.laws.parts_keep.Goals as goal

pub returns : goal.returns
returns c = lemmas.parts_keep
