use Rattle.txn_state.proofs.RecordsSettling as lemmas
use Rattle.txn_state.proofs.append_laws.gives_are_answered.Goals as goal

pub returns : goal.returns
returns g c = lemmas.gives_are_answered _
