use Rattle.txn_state.proofs.HeapSteps as lemmas
use Rattle.txn_state.proofs.heap_laws.words_are_taken_back.Goals as goal

pub returns : goal.returns
returns c facts = lemmas.words_are_taken_back
