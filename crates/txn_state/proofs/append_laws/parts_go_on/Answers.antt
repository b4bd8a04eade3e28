use Rattle.txn_state.proofs.PartsGoing as lemmas
use Rattle.txn_state.proofs.append_laws.parts_go_on.Goals as goal

pub returns : goal.returns
returns g c = lemmas.parts_go_on _
