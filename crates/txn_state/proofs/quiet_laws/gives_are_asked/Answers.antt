use Rattle.txn_state.proofs.Gives as lemmas
use Rattle.txn_state.proofs.quiet_laws.gives_are_asked.Goals as goal

pub returns : goal.returns
returns c facts = lemmas.gives_are_asked
