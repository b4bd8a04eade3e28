use Rattle.txn_state.proofs.Owed as lemmas
use Rattle.txn_state.proofs.read_laws.records_are_owed.Goals as goal

pub returns : goal.returns
returns c facts = lemmas.records_are_owed
