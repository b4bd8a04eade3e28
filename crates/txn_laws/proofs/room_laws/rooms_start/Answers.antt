use Rattle.txn_laws.proofs.Rooms as lemmas
use Rattle.txn_laws.proofs.room_laws.rooms_start.Goals as goal

pub returns : goal.returns
returns c = lemmas.rooms_start
