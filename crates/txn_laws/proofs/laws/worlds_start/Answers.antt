use Rattle.txn_laws.proofs.Starting as lemmas
use Rattle.txn_laws.proofs.laws.worlds_start.Goals as goal

pub returns : goal.returns
returns c = lemmas.worlds_start
