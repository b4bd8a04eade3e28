use Rattle.txn_laws.proofs.Reserved as lemmas
use Rattle.txn_laws.proofs.room_laws.shares_are_summed.Goals as goal

pub returns : goal.returns
returns c = lemmas.shares_are_summed
