use Rattle.txn_laws.proofs.Beginning as lemmas
use Rattle.txn_laws.proofs.laws.begins_keep.Goals as goal

pub returns : goal.returns
returns c = lemmas.begins_keep
