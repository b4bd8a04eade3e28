use Rattle.log_keeper.proofs.RoomEvents as lemmas
use Rattle.log_keeper.proofs.need_laws.closings_raise_rooms.Goals as goal

pub returns : goal.returns
returns c = lemmas.closings_raise_rooms
