use Rattle.std.specs.Prelude.{slice_index, length}
use Rattle.std.proofs.Common.{◌+◌, arith, ap}
use Rattle.atomic_list.specs.Walk.{chain_of}
use Rattle.region_layout.specs.Layout.{layout_shape}
use Rattle.bucket_log.proofs.Walking.{in_chain, next_is, good_chain, walk_node, walk_goes_on, walk_stops, walk_is_over}
use Rattle.bucket_log.proofs.chain.chain_end.Goals as goal

pub next_bucket-next-requires-clause-node : goal.next_bucket-next-requires-clause-node
next_bucket-next-requires-clause-node g c = in_chain c.args.layout (length (g.W.Look.words c.args.words.now)) (slice_index (g.W.Look.words c.args.words.now)) c.loop.last c.requires
    (walk_node (λ front. Unit {0}) (chain_of (layout_shape c.args.layout) (slice_index (g.W.Look.words c.args.words.now))) c.loop.last c.loop.count c.loop.invariant.walked)

pub loop-preserved : goal.loop-preserved
loop-preserved g c =
    let good = good_chain c.args.layout (length (g.W.Look.words c.args.words.now)) (slice_index (g.W.Look.words c.args.words.now)) c.requires in
    record {
      walked = walk_goes_on (layout_shape c.args.layout) c.requires.has_list.part (λ front. Unit {0}) (chain_of (layout_shape c.args.layout) (slice_index (g.W.Look.words c.args.words.now))) c.loop.last c.loop.count c.next_bucket-next.result good c.loop.invariant.walked
          (next_is c.args.layout (length (g.W.Look.words c.args.words.now)) (slice_index (g.W.Look.words c.args.words.now)) c.loop.last c.next_bucket-next.result c.requires c.next_bucket-next.ensures.next) c.if-next-eq0.false (λ h. tt);
      counted = ap (λ n. n + 1) c.loop.invariant.counted;
    }

pub returns-after-loop-clause-last : goal.returns-after-loop-clause-last
returns-after-loop-clause-last g c =
    let inside = (good_chain c.args.layout (length (g.W.Look.words c.args.words.now)) (slice_index (g.W.Look.words c.args.words.now)) c.requires).inside in
    (walk_is_over (λ front. Unit {0}) (chain_of (layout_shape c.args.layout) (slice_index (g.W.Look.words c.args.words.now))) c.loop.last c.loop.count c.loop.invariant.walked (omega arith)).last_is

pub returns-after-loop-clause-count : goal.returns-after-loop-clause-count
returns-after-loop-clause-count g c =
    let inside = (good_chain c.args.layout (length (g.W.Look.words c.args.words.now)) (slice_index (g.W.Look.words c.args.words.now)) c.requires).inside in
    (walk_is_over (λ front. Unit {0}) (chain_of (layout_shape c.args.layout) (slice_index (g.W.Look.words c.args.words.now))) c.loop.last c.loop.count c.loop.invariant.walked (omega arith)).count_is

pub returns-then-next-eq0-clause-last : goal.returns-then-next-eq0-clause-last
returns-then-next-eq0-clause-last g c =
    let good = good_chain c.args.layout (length (g.W.Look.words c.args.words.now)) (slice_index (g.W.Look.words c.args.words.now)) c.requires in
    (walk_stops (layout_shape c.args.layout) c.requires.has_list.part (λ front. Unit {0}) (chain_of (layout_shape c.args.layout) (slice_index (g.W.Look.words c.args.words.now))) c.loop.last c.loop.count c.next_bucket-next.result good c.loop.invariant.walked
    (next_is c.args.layout (length (g.W.Look.words c.args.words.now)) (slice_index (g.W.Look.words c.args.words.now)) c.loop.last c.next_bucket-next.result c.requires c.next_bucket-next.ensures.next) c.if-next-eq0.true).last_is

pub returns-then-next-eq0-clause-count : goal.returns-then-next-eq0-clause-count
returns-then-next-eq0-clause-count g c =
    let good = good_chain c.args.layout (length (g.W.Look.words c.args.words.now)) (slice_index (g.W.Look.words c.args.words.now)) c.requires in
    (walk_stops (layout_shape c.args.layout) c.requires.has_list.part (λ front. Unit {0}) (chain_of (layout_shape c.args.layout) (slice_index (g.W.Look.words c.args.words.now))) c.loop.last c.loop.count c.next_bucket-next.result good c.loop.invariant.walked
    (next_is c.args.layout (length (g.W.Look.words c.args.words.now)) (slice_index (g.W.Look.words c.args.words.now)) c.loop.last c.next_bucket-next.result c.requires c.next_bucket-next.ensures.next) c.if-next-eq0.true).count_is
