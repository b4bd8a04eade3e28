use Rattle.txn_state.proofs.HeapSteps as lemmas
use Rattle.txn_state.proofs.heap_laws.takes_are_stored.Goals as goal

pub returns : goal.returns
returns c facts = lemmas.takes_are_stored
