use Rattle.sound_check.proofs.RoomRead.{log_of_part, room_is_state, room_small}
use Rattle.sound_check.proofs.log_rules.room_of_part.Goals as goal

pub room-requires : goal.room-requires
room-requires g c = log_of_part c.args.layout c.args.p (g.W.Look.words c.args.words.now) _ c.part.result c.requires.part c.requires.logs c.part.ensures c.new-view.ensures

pub returns-clause-room : goal.returns-clause-room
returns-clause-room g c = λ s has. room_is_state c.args.layout c.args.p (g.W.Look.words c.args.words.now) _ c.part.result s c.room.result c.requires.part c.requires.logs c.part.ensures c.new-view.ensures has c.room.ensures

pub returns-clause-small : goal.returns-clause-small
returns-clause-small g c = room_small c.args.layout c.args.p _ c.part.result c.room.result c.requires.part c.part.ensures c.room.ensures
