use Rattle.std.specs.Prelude.{slice_index, length}
use Rattle.std.proofs.Common.{arith}
use Rattle.atomic_list.specs.Walk.{chain_of}
use Rattle.region_layout.specs.Layout.{layout_shape}
use Rattle.bucket_log.proofs.Walking.{in_chain, next_is, good_chain, walk_node, walk_goes_on, walk_stops, walk_is_over}
use Rattle.batch_log.proofs.free.chain_last.Goals as goal

pub next_bucket-next-requires-clause-node : goal.next_bucket-next-requires-clause-node
next_bucket-next-requires-clause-node g c = in_chain c.args.layout (length (g.W.Look.words c.args.words.now)) (slice_index (g.W.Look.words c.args.words.now)) c.loop.last c.requires
    (walk_node (λ front. Unit {0}) (chain_of (layout_shape c.args.layout) (slice_index (g.W.Look.words c.args.words.now))) c.loop.last c.loop.counter c.loop.invariant.walked)

pub loop-preserved : goal.loop-preserved
loop-preserved g c = record {
  walked = walk_goes_on (layout_shape c.args.layout) c.requires.has_list.part (λ front. Unit {0}) (chain_of (layout_shape c.args.layout) (slice_index (g.W.Look.words c.args.words.now))) c.loop.last c.loop.counter c.next_bucket-next.result
      (good_chain c.args.layout (length (g.W.Look.words c.args.words.now)) (slice_index (g.W.Look.words c.args.words.now)) c.requires) c.loop.invariant.walked
      (next_is c.args.layout (length (g.W.Look.words c.args.words.now)) (slice_index (g.W.Look.words c.args.words.now)) c.loop.last c.next_bucket-next.result c.requires c.next_bucket-next.ensures.next) c.if-next-eq0.false (λ h. tt);
}

pub returns-after-loop : goal.returns-after-loop
returns-after-loop g c =
    let inside = (good_chain c.args.layout (length (g.W.Look.words c.args.words.now)) (slice_index (g.W.Look.words c.args.words.now)) c.requires).inside in
    (walk_is_over (λ front. Unit {0}) (chain_of (layout_shape c.args.layout) (slice_index (g.W.Look.words c.args.words.now))) c.loop.last c.loop.counter c.loop.invariant.walked (omega arith)).last_is

pub returns-then-next-eq0 : goal.returns-then-next-eq0
returns-then-next-eq0 g c =
    (walk_stops (layout_shape c.args.layout) c.requires.has_list.part (λ front. Unit {0}) (chain_of (layout_shape c.args.layout) (slice_index (g.W.Look.words c.args.words.now))) c.loop.last c.loop.counter c.next_bucket-next.result
    (good_chain c.args.layout (length (g.W.Look.words c.args.words.now)) (slice_index (g.W.Look.words c.args.words.now)) c.requires) c.loop.invariant.walked
    (next_is c.args.layout (length (g.W.Look.words c.args.words.now)) (slice_index (g.W.Look.words c.args.words.now)) c.loop.last c.next_bucket-next.result c.requires c.next_bucket-next.ensures.next) c.if-next-eq0.true).last_is
