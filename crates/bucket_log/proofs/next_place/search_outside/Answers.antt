use Rattle.std.specs.Prelude.{slice_index, length}
use Rattle.std.proofs.Common.{arith}
use Rattle.atomic_list.specs.Walk.{chain_of}
use Rattle.region_layout.specs.Layout.{layout_shape}
use Rattle.bucket_log.proofs.Counting.{least_is}
use Rattle.bucket_log.proofs.Walking.{part_inside}
use Rattle.bucket_log.proofs.next_place.search_outside.Goals as goal

pub bucket-requires : goal.bucket-requires
bucket-requires g c = let inside = part_inside c.args.layout c.args.part (length (g.W.Look.words c.args.words.now)) (slice_index (g.W.Look.words c.args.words.now)) c.requires in omega (arith, inside)

pub returns : goal.returns
returns g c = least_is (layout_shape c.args.layout) c.args.part (chain_of (layout_shape c.args.layout) (slice_index (g.W.Look.words c.args.words.now))) c.loop-low.low c.loop-low.high c.bucket.result c.loop-low.invariant.from
    (let order = c.loop-low.invariant.order in let over = c.loop-low-test.false in omega (arith, order, over)) c.loop-low.invariant.to c.if-low-part.false c.loop-low.invariant.all_below c.loop-low.invariant.not_all c.bucket.ensures
