use Rattle.std.specs.Prelude.{slice_index, length}
use Rattle.std.proofs.Common.{◌∙◌}
use Rattle.bucket_log.proofs.NextPlaces.{room_is}
use Rattle.bucket_log.proofs.room_count.room.Goals as goal

pub returns : goal.returns
returns g c = λ w p same is. c.read_room.ensures ∙ room_is c.args.layout c.args.part (length (g.W.Look.words c.args.words.now)) (slice_index (g.W.Look.words c.args.words.now)) c.requires w same p is
