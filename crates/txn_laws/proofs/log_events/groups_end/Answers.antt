use Rattle.txn_laws.proofs.Closings as lemmas
use Rattle.txn_laws.proofs.log_events.groups_end.Goals as goal

pub returns : goal.returns
returns c = lemmas.groups_end
