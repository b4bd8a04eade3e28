use Rattle.txn_laws.proofs.AllLatches as lemmas
use Rattle.txn_laws.proofs.log_events.all_latches_keep.Goals as goal

pub returns : goal.returns
returns c = lemmas.all_latches_keep
