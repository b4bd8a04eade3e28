use Rattle.log_keeper.proofs.Rooms as lemmas
use Rattle.log_keeper.proofs.need_laws.images_have_rooms.Goals as goal

pub returns : goal.returns
returns c = lemmas.images_have_rooms
