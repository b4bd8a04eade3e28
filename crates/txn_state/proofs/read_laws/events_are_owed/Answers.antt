use Rattle.txn_state.proofs.Owed as lemmas
use Rattle.txn_state.proofs.read_laws.events_are_owed.Goals as goal

pub returns : goal.returns
returns c facts = lemmas.events_are_owed
