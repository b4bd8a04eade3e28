use Rattle.txn_laws.proofs.Asking as lemmas
use Rattle.txn_laws.proofs.laws.asks_keep.Goals as goal

pub returns : goal.returns
returns c = lemmas.asks_keep
