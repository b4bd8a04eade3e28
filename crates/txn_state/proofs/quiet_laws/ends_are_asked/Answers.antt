use Rattle.txn_state.proofs.Asks as lemmas
use Rattle.txn_state.proofs.quiet_laws.ends_are_asked.Goals as goal

pub returns : goal.returns
returns c facts = lemmas.ends_are_asked
