use Rattle.txn_laws.proofs.Beginning as lemmas
use Rattle.txn_laws.proofs.laws.leaves_keep.Goals as goal

pub returns : goal.returns
returns c = lemmas.leaves_keep
