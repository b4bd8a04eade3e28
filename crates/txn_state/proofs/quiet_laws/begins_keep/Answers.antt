use Rattle.txn_state.proofs.Begins as lemmas
use Rattle.txn_state.proofs.quiet_laws.begins_keep.Goals as goal

pub returns : goal.returns
returns c facts = lemmas.begins_keep
