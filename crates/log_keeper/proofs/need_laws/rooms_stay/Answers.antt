use Rattle.log_keeper.proofs.RoomEvents as lemmas
use Rattle.log_keeper.proofs.need_laws.rooms_stay.Goals as goal

pub returns : goal.returns
returns c = lemmas.rooms_stay
