use Rattle.std.specs.Prelude.{slice_index, length}
use Rattle.bucket_log.proofs.NextPlaces.{next_is, some_cells}
use Rattle.bucket_log.proofs.next_place.place_with.Goals as goal

pub returns-clause-none : goal.returns-clause-none
returns-clause-none g c = λ w p same is. (next_is c.args.layout c.args.part (length (g.W.Look.words c.args.words.now)) (slice_index (g.W.Look.words c.args.words.now)) c.requires.log w same p is (some_cells c.args.layout) c.read_place_with.result c.read_place_with.ensures).0

pub returns-clause-next : goal.returns-clause-next
returns-clause-next g c = λ w p same is. (next_is c.args.layout c.args.part (length (g.W.Look.words c.args.words.now)) (slice_index (g.W.Look.words c.args.words.now)) c.requires.log w same p is (some_cells c.args.layout) c.read_place_with.result c.read_place_with.ensures).1
