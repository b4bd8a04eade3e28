use Rattle.txn_state.proofs.Asks as lemmas
use Rattle.txn_state.proofs.quiet_laws.writes_are_asked.Goals as goal

pub returns : goal.returns
returns c facts = lemmas.writes_are_asked
