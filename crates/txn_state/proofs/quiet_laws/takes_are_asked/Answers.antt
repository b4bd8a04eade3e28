use Rattle.txn_state.proofs.Takes as lemmas
use Rattle.txn_state.proofs.quiet_laws.takes_are_asked.Goals as goal

pub returns : goal.returns
returns c facts = lemmas.takes_are_asked
