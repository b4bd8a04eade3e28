use Rattle.txn_laws.proofs.Asking as lemmas
use Rattle.txn_laws.proofs.laws.latches_keep.Goals as goal

pub returns : goal.returns
returns c = lemmas.latches_keep
