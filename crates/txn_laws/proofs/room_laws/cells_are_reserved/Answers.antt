use Rattle.txn_laws.proofs.Reserved as lemmas
use Rattle.txn_laws.proofs.room_laws.cells_are_reserved.Goals as goal

pub returns : goal.returns
returns c = lemmas.cells_are_reserved
