use Rattle.batch_log.proofs.Rooms as lemmas
use Rattle.batch_log.proofs.laws.groups_leave_room.Goals as goal

pub returns : goal.returns
returns c = lemmas.groups_leave_room
