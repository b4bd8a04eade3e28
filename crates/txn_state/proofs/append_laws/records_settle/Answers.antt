use Rattle.txn_state.proofs.RecordsSettling as lemmas
use Rattle.txn_state.proofs.append_laws.records_settle.Goals as goal

pub returns : goal.returns
returns g c = lemmas.records_settle _
