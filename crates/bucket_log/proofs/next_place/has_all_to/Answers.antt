use Rattle.std.specs.Prelude.{slice_index, length}
use Rattle.std.proofs.Common.{arith, ◌∙◌, ap}
use Rattle.atomic_list.specs.Walk.{chain_of}
use Rattle.region_layout.specs.Layout.{layout_shape}
use Rattle.bucket_log.specs.Reads.{count_to}
use Rattle.bucket_log.proofs.Counting.{count_says}
use Rattle.bucket_log.proofs.Walking.{part_inside}
use Rattle.bucket_log.proofs.next_place.has_all_to.Goals as goal

pub bucket-requires : goal.bucket-requires
bucket-requires g c = let inside = part_inside c.args.layout c.args.part (length (g.W.Look.words c.args.words.now)) (slice_index (g.W.Look.words c.args.words.now)) c.requires.part in let below = c.requires.number.1 in omega (arith, inside, below)

pub returns : goal.returns
returns g c = count_says c.args.layout c.args.part (length (g.W.Look.words c.args.words.now)) (slice_index (g.W.Look.words c.args.words.now)) c.requires.part c.args.j c.requires.number.0 c.count_buckets_to-used.result
    (c.count_buckets_to-used.ensures ∙ ap (λ at. count_to at (chain_of (layout_shape c.args.layout) (slice_index (g.W.Look.words c.args.words.now)))) c.bucket.ensures)
