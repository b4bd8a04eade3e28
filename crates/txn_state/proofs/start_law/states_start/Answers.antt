use Rattle.txn_state.proofs.Starts as lemmas
use Rattle.txn_state.proofs.start_law.states_start.Goals as goal

pub returns : goal.returns
returns c facts = lemmas.states_start
