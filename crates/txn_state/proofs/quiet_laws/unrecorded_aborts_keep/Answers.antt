use Rattle.txn_state.proofs.Leaves as lemmas
use Rattle.txn_state.proofs.quiet_laws.unrecorded_aborts_keep.Goals as goal

pub returns : goal.returns
returns c facts = lemmas.unrecorded_aborts_keep
