use Rattle.txn_state.proofs.Ready as lemmas
use Rattle.txn_state.proofs.read_laws.lanes_are_ready.Goals as goal

pub returns : goal.returns
returns c facts = lemmas.lanes_are_ready
