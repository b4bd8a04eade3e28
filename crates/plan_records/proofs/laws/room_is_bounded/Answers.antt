use Rattle.plan_records.proofs.RoomBound as lemmas
use Rattle.plan_records.proofs.laws.room_is_bounded.Goals as goal

pub returns : goal.returns
returns c = lemmas.room_is_bounded
