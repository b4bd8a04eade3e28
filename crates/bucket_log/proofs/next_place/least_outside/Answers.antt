use Rattle.std.specs.Prelude.{slice_index, length}
use Rattle.std.proofs.Common.{arith}
use Rattle.atomic_list.specs.Walk.{chain_of}
use Rattle.region_layout.specs.Layout.{layout_shape}
use Rattle.bucket_log.proofs.Counting.{least_behind}
use Rattle.bucket_log.proofs.Walking.{part_inside}
use Rattle.bucket_log.proofs.next_place.least_outside.Goals as goal

pub bucket-requires : goal.bucket-requires
bucket-requires g c =
    let inside = part_inside c.args.layout c.args.part (length (g.W.Look.words c.args.words.now)) (slice_index (g.W.Look.words c.args.words.now)) c.requires in
    let first = c.is_first_part.ensures c.if-is_first_part.true in
    let below = first.0 in
    omega (arith, inside, below)

pub returns-then-is_first_part : goal.returns-then-is_first_part
returns-then-is_first_part g c = least_behind (layout_shape c.args.layout) c.args.part (chain_of (layout_shape c.args.layout) (slice_index (g.W.Look.words c.args.words.now)))
    c.chain_end-used.result.count c.bucket.result c.chain_end-used.ensures.count (c.is_first_part.ensures c.if-is_first_part.true) c.bucket.ensures
