use Rattle.txn_state.proofs.SameTransaction as lemmas
use Rattle.txn_state.proofs.quiet_laws.memory_is_taken.Goals as goal

pub returns : goal.returns
returns c facts = lemmas.memory_is_taken
