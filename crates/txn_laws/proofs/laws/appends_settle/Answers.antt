use Rattle.txn_laws.proofs.Settles as lemmas
use Rattle.txn_laws.proofs.laws.appends_settle.Goals as goal

pub returns : goal.returns
returns c = lemmas.appends_settle
