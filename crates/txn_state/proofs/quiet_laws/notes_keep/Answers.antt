use Rattle.txn_state.proofs.SameTransaction as lemmas
use Rattle.txn_state.proofs.quiet_laws.notes_keep.Goals as goal

pub returns : goal.returns
returns c facts = lemmas.notes_keep
