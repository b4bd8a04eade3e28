use Rattle.txn_state.proofs.AppendBegins as lemmas
use Rattle.txn_state.proofs.append_laws.appends_begin.Goals as goal

pub returns : goal.returns
returns g c = lemmas.appends_begin _
