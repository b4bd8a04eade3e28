use Rattle.txn_state.proofs.Sums as lemmas
use Rattle.txn_state.proofs.beside.sums_differ.Goals as goal

pub returns : goal.returns
returns c = lemmas.sums_differ
