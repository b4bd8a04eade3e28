use Rattle.std.specs.Prelude.{slice_index, length}
use Rattle.std.proofs.Common.{◌≡◌, arith}
use Rattle.atomic_list.specs.Walk.{chain_of}
use Rattle.region_layout.specs.Layout.{layout_shape}
use Rattle.bucket_log.specs.Scans.{chain_cells}
use Rattle.bucket_log.proofs.Walking.{in_chain, next_is, next_among, bucket_inside, good_chain, walk_node, walk_goes_to, walk_stops, walk_is_over}
use Rattle.bucket_log.proofs.Scans.{walked_more}
use Rattle.bucket_log.proofs.scanning.scan_chain.Goals as goal
use Rattle.bucket_log.proofs.scanning.scan_chain.Goals.{else-loop-test, then-loop-test+then-next-eq0}

pub next_bucket-next-requires-clause-node : goal.next_bucket-next-requires-clause-node
next_bucket-next-requires-clause-node g c = in_chain c.args.layout (length (g.W.Look.words c.args.words.now)) (slice_index (g.W.Look.words c.args.words.now)) c.loop.last c.requires (walk_node (λ front. c.loop.found.items ≡ chain_cells (slice_index (g.W.Look.words c.args.words.now)) c.args.layout.cells front) (chain_of (layout_shape c.args.layout) (slice_index (g.W.Look.words c.args.words.now))) c.loop.last c.loop.counter c.loop.invariant)

pub scan_bucket-requires-clause-bucket : goal.scan_bucket-requires-clause-bucket
scan_bucket-requires-clause-bucket g c = bucket_inside c.args.layout (length (g.W.Look.words c.args.words.now)) (slice_index (g.W.Look.words c.args.words.now)) c.next_bucket-next.result c.requires
    (next_among c.args.layout (length (g.W.Look.words c.args.words.now)) (slice_index (g.W.Look.words c.args.words.now)) c.next_bucket-next.result c.requires c.next_bucket-next.ensures.in_chain c.if-next-eq0.false)

pub loop-preserved : goal.loop-preserved
loop-preserved g c =
    walk_goes_to (layout_shape c.args.layout) c.requires.has_list.part (λ front. c.loop.found.items ≡ chain_cells (slice_index (g.W.Look.words c.args.words.now)) c.args.layout.cells front) (λ front. c.scan_bucket.new.found.items ≡ chain_cells (slice_index (g.W.Look.words c.args.words.now)) c.args.layout.cells front) (chain_of (layout_shape c.args.layout) (slice_index (g.W.Look.words c.args.words.now))) c.loop.last c.loop.counter c.next_bucket-next.result
    (good_chain c.args.layout (length (g.W.Look.words c.args.words.now)) (slice_index (g.W.Look.words c.args.words.now)) c.requires) c.loop.invariant
    (next_is c.args.layout (length (g.W.Look.words c.args.words.now)) (slice_index (g.W.Look.words c.args.words.now)) c.loop.last c.next_bucket-next.result c.requires c.next_bucket-next.ensures.next) c.if-next-eq0.false
    (λ h. walked_more (slice_index (g.W.Look.words c.args.words.now)) c.args.layout.cells c.loop.invariant.front c.next_bucket-next.result c.loop.found.items c.scan_bucket.new.found.items h c.in_ok-scan_bucket.ensures)

pub returns : goal.returns
returns g c =
    let inside = (good_chain c.args.layout (length (g.W.Look.words c.args.words.now)) (slice_index (g.W.Look.words c.args.words.now)) c.requires).inside in
    elim c.loop-test.branch [
      | else-loop-test w ↦ (walk_is_over (λ front. c.loop.found.items ≡ chain_cells (slice_index (g.W.Look.words c.args.words.now)) c.args.layout.cells front) (chain_of (layout_shape c.args.layout) (slice_index (g.W.Look.words c.args.words.now))) c.loop.last c.loop.counter c.loop.invariant (omega (arith, inside, w.loop-test.false))).holds
      | then-loop-test+then-next-eq0 w ↦ (walk_stops (layout_shape c.args.layout) c.requires.has_list.part (λ front. c.loop.found.items ≡ chain_cells (slice_index (g.W.Look.words c.args.words.now)) c.args.layout.cells front) (chain_of (layout_shape c.args.layout) (slice_index (g.W.Look.words c.args.words.now))) c.loop.last c.loop.counter w.next_bucket-next.result
          (good_chain c.args.layout (length (g.W.Look.words c.args.words.now)) (slice_index (g.W.Look.words c.args.words.now)) c.requires) c.loop.invariant
          (next_is c.args.layout (length (g.W.Look.words c.args.words.now)) (slice_index (g.W.Look.words c.args.words.now)) c.loop.last w.next_bucket-next.result c.requires w.next_bucket-next.ensures.next) w.if-next-eq0.true).holds
    ]
