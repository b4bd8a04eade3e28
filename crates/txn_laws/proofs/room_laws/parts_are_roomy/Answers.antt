use Rattle.txn_laws.proofs.Rooms as lemmas
use Rattle.txn_laws.proofs.room_laws.parts_are_roomy.Goals as goal

pub returns : goal.returns
returns c = lemmas.parts_are_roomy
