use Rattle.txn_laws.proofs.Beginning as lemmas
use Rattle.txn_laws.proofs.laws.unrecorded_commit.Goals as goal

pub returns : goal.returns
returns c = lemmas.unrecorded_commit
