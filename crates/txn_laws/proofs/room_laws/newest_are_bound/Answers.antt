use Rattle.txn_laws.proofs.Reserved as lemmas
use Rattle.txn_laws.proofs.room_laws.newest_are_bound.Goals as goal

pub returns : goal.returns
returns c = lemmas.newest_are_bound
