use Rattle.txn_state.proofs.Owed as lemmas
use Rattle.txn_state.proofs.read_laws.holders_are_busy.Goals as goal

pub returns : goal.returns
returns c facts = lemmas.holders_are_busy
