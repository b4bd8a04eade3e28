use Rattle.txn_state.proofs.EndsSettling as lemmas
use Rattle.txn_state.proofs.append_laws.undone_ends_settle.Goals as goal

pub returns : goal.returns
returns g c = lemmas.undone_ends_settle _
