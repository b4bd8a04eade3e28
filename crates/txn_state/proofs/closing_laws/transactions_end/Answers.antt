use Rattle.txn_state.proofs.Cleared as lemmas
use Rattle.txn_state.proofs.closing_laws.transactions_end.Goals as goal

pub returns : goal.returns
returns c facts = lemmas.transactions_end
