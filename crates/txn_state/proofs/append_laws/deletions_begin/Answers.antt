use Rattle.txn_state.proofs.AppendBegins as lemmas
use Rattle.txn_state.proofs.append_laws.deletions_begin.Goals as goal

pub returns : goal.returns
returns g c = lemmas.deletions_begin _
