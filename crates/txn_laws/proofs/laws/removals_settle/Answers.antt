use Rattle.txn_laws.proofs.Dropping as lemmas
use Rattle.txn_laws.proofs.laws.removals_settle.Goals as goal

pub returns : goal.returns
returns c = lemmas.removals_settle
