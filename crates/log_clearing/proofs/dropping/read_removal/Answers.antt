use Rattle.std.specs.Prelude.{slice_index, length}
use Rattle.std.proofs.Common.{refl, arith}
use Rattle.atomic_list.specs.Walk.{chain_of}
use Rattle.region_layout.specs.Layout.{layout_shape}
use Rattle.bucket_log.proofs.Walking.{in_chain, next_is, next_among, bucket_inside, good_chain, walk_node, walk_stops, walk_is_over}
use Rattle.log_clearing.proofs.ClosedBuckets.{AreOpen, found, none_before, none_at_all, walk_on}
use Rattle.log_clearing.proofs.dropping.read_removal.Goals as goal

pub next_bucket-node-requires-clause-node : goal.next_bucket-node-requires-clause-node
next_bucket-node-requires-clause-node g c = in_chain c.args.layout (length (g.W.Look.words c.args.words.now)) (slice_index (g.W.Look.words c.args.words.now)) c.loop.prev c.requires
    (walk_node (AreOpen (layout_shape c.args.layout) (slice_index (g.W.Look.words c.args.words.now))) (chain_of (layout_shape c.args.layout) (slice_index (g.W.Look.words c.args.words.now))) c.loop.prev c.loop.counter c.loop.invariant)

pub is_closed-requires-clause-bucket : goal.is_closed-requires-clause-bucket
is_closed-requires-clause-bucket g c = bucket_inside c.args.layout (length (g.W.Look.words c.args.words.now)) (slice_index (g.W.Look.words c.args.words.now)) c.next_bucket-node.result c.requires
    (next_among c.args.layout (length (g.W.Look.words c.args.words.now)) (slice_index (g.W.Look.words c.args.words.now)) c.next_bucket-node.result c.requires c.next_bucket-node.ensures.in_chain c.if-node-eq0.false)

pub loop-preserved : goal.loop-preserved
loop-preserved g c =
    walk_on (layout_shape c.args.layout) c.requires.has_list.part (slice_index (g.W.Look.words c.args.words.now)) (chain_of (layout_shape c.args.layout) (slice_index (g.W.Look.words c.args.words.now))) c.loop.prev c.loop.counter c.next_bucket-node.result
    (good_chain c.args.layout (length (g.W.Look.words c.args.words.now)) (slice_index (g.W.Look.words c.args.words.now)) c.requires) c.loop.invariant
    (next_is c.args.layout (length (g.W.Look.words c.args.words.now)) (slice_index (g.W.Look.words c.args.words.now)) c.loop.prev c.next_bucket-node.result c.requires c.next_bucket-node.ensures.next) c.if-node-eq0.false (λ shut. (let t = c.if-is_closed.ensures.1 shut in cc))

pub returns-then-node-eq0 : goal.returns-then-node-eq0
returns-then-node-eq0 g c = none_at_all (layout_shape c.args.layout) (slice_index (g.W.Look.words c.args.words.now)) (chain_of (layout_shape c.args.layout) (slice_index (g.W.Look.words c.args.words.now)))
    (walk_stops (layout_shape c.args.layout) c.requires.has_list.part (AreOpen (layout_shape c.args.layout) (slice_index (g.W.Look.words c.args.words.now))) (chain_of (layout_shape c.args.layout) (slice_index (g.W.Look.words c.args.words.now))) c.loop.prev c.loop.counter c.next_bucket-node.result
    (good_chain c.args.layout (length (g.W.Look.words c.args.words.now)) (slice_index (g.W.Look.words c.args.words.now)) c.requires) c.loop.invariant
    (next_is c.args.layout (length (g.W.Look.words c.args.words.now)) (slice_index (g.W.Look.words c.args.words.now)) c.loop.prev c.next_bucket-node.result c.requires c.next_bucket-node.ensures.next) c.if-node-eq0.true).holds

pub returns-then-next-eq0 : goal.returns-then-next-eq0
returns-then-next-eq0 g c =
    none_before (layout_shape c.args.layout) c.requires.has_list.part (slice_index (g.W.Look.words c.args.words.now)) (chain_of (layout_shape c.args.layout) (slice_index (g.W.Look.words c.args.words.now))) c.loop.prev c.loop.counter c.next_bucket-node.result c.next_bucket-next.result
    (good_chain c.args.layout (length (g.W.Look.words c.args.words.now)) (slice_index (g.W.Look.words c.args.words.now)) c.requires) c.loop.invariant
    (next_is c.args.layout (length (g.W.Look.words c.args.words.now)) (slice_index (g.W.Look.words c.args.words.now)) c.loop.prev c.next_bucket-node.result c.requires c.next_bucket-node.ensures.next) c.if-node-eq0.false
    (next_is c.args.layout (length (g.W.Look.words c.args.words.now)) (slice_index (g.W.Look.words c.args.words.now)) c.next_bucket-node.result c.next_bucket-next.result c.requires c.next_bucket-next.ensures.next) c.if-next-eq0.true

pub returns-then-is_closed : goal.returns-then-is_closed
returns-then-is_closed g c =
    found (layout_shape c.args.layout) c.requires.has_list.part (slice_index (g.W.Look.words c.args.words.now)) (chain_of (layout_shape c.args.layout) (slice_index (g.W.Look.words c.args.words.now))) c.loop.prev c.loop.counter c.next_bucket-node.result c.next_bucket-next.result
    (good_chain c.args.layout (length (g.W.Look.words c.args.words.now)) (slice_index (g.W.Look.words c.args.words.now)) c.requires) c.loop.invariant
    (next_is c.args.layout (length (g.W.Look.words c.args.words.now)) (slice_index (g.W.Look.words c.args.words.now)) c.loop.prev c.next_bucket-node.result c.requires c.next_bucket-node.ensures.next) c.if-node-eq0.false
    (next_is c.args.layout (length (g.W.Look.words c.args.words.now)) (slice_index (g.W.Look.words c.args.words.now)) c.next_bucket-node.result c.next_bucket-next.result c.requires c.next_bucket-next.ensures.next) c.if-next-eq0.false (c.if-is_closed.ensures.0 refl)

pub returns : goal.returns
returns g c =
    let inside = (good_chain c.args.layout (length (g.W.Look.words c.args.words.now)) (slice_index (g.W.Look.words c.args.words.now)) c.requires).inside in
    none_at_all (layout_shape c.args.layout) (slice_index (g.W.Look.words c.args.words.now)) (chain_of (layout_shape c.args.layout) (slice_index (g.W.Look.words c.args.words.now)))
    (walk_is_over (AreOpen (layout_shape c.args.layout) (slice_index (g.W.Look.words c.args.words.now))) (chain_of (layout_shape c.args.layout) (slice_index (g.W.Look.words c.args.words.now))) c.loop.prev c.loop.counter c.loop.invariant (omega arith)).holds
