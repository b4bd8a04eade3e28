use Rattle.log_keeper.proofs.Rooms as lemmas
use Rattle.log_keeper.proofs.need_laws.room_is_one.Goals as goal

pub returns : goal.returns
returns c = lemmas.room_is_one
