use Rattle.txn_state.proofs.EndsSettling as lemmas
use Rattle.txn_state.proofs.append_laws.commit_ends_settle.Goals as goal

pub returns : goal.returns
returns g c = lemmas.commit_ends_settle _
