use Rattle.txn_state.proofs.ReservedRoom as lemmas
use Rattle.txn_state.proofs.read_laws.views_are_read.Goals as goal

pub returns : goal.returns
returns c facts = lemmas.views_are_read
