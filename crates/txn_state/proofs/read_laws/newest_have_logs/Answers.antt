use Rattle.txn_state.proofs.Viewing as lemmas
use Rattle.txn_state.proofs.read_laws.newest_have_logs.Goals as goal

pub returns : goal.returns
returns c facts = lemmas.newest_have_logs
