use Rattle.txn_state.proofs.HeapSteps as lemmas
use Rattle.txn_state.proofs.heap_laws.fences_keep.Goals as goal

pub returns : goal.returns
returns c facts = lemmas.fences_keep
