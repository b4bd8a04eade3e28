use Rattle.txn_state.proofs.Leaves as lemmas
use Rattle.txn_state.proofs.quiet_laws.unrecorded_commits_keep.Goals as goal

pub returns : goal.returns
returns c facts = lemmas.unrecorded_commits_keep
