use Rattle.save_point.proofs.Fronts as lemmas
use Rattle.save_point.proofs.laws.backs_have_room.Goals as goal

pub returns : goal.returns
returns c = lemmas.backs_have_room
