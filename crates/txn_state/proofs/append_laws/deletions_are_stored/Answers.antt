use Rattle.txn_state.proofs.GateStores as lemmas
use Rattle.txn_state.proofs.append_laws.deletions_are_stored.Goals as goal

pub returns : goal.returns
returns g c = lemmas.deletions_are_stored _
