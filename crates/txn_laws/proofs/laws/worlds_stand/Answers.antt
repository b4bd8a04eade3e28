use Rattle.txn_laws.proofs.Moments as lemmas
use Rattle.txn_laws.proofs.laws.worlds_stand.Goals as goal

pub returns : goal.returns
returns c = lemmas.worlds_stand
