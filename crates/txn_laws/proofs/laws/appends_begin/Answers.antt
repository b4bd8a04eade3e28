use Rattle.txn_laws.proofs.Asking as lemmas
use Rattle.txn_laws.proofs.laws.appends_begin.Goals as goal

pub returns : goal.returns
returns c = lemmas.appends_begin
