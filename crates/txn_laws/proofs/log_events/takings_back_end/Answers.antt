use Rattle.txn_laws.proofs.TakingsBack as lemmas
use Rattle.txn_laws.proofs.log_events.takings_back_end.Goals as goal

pub returns : goal.returns
returns c = lemmas.takings_back_end
