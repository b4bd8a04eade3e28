use Rattle.std.specs.Prelude.{slice_index, length}
use Rattle.std.proofs.Common.{arith, sym, subst}
use Rattle.persist_model.specs.Records.{IsAmong}
use Rattle.atomic_list.specs.Walk.{chain_of}
use Rattle.region_layout.specs.Layout.{layout_shape}
use Rattle.bucket_log.proofs.Walking.{in_chain, next_is, next_among, good_chain, walk_node, walk_goes_on, walk_stops, walk_is_over}
use Rattle.batch_log.proofs.FreeWalks.{HasPassed, passed_more, has_from}
use Rattle.batch_log.proofs.free.is_in_chain.Goals as goal

pub next_bucket-next-requires-clause-node : goal.next_bucket-next-requires-clause-node
next_bucket-next-requires-clause-node g c = in_chain c.args.layout (length (g.W.Look.words c.args.words.now)) (slice_index (g.W.Look.words c.args.words.now)) c.loop.last c.requires
    (walk_node (λ front. HasPassed c.args.bucket front) (chain_of (layout_shape c.args.layout) (slice_index (g.W.Look.words c.args.words.now))) c.loop.last c.loop.counter c.loop.invariant.walked)

pub loop-preserved : goal.loop-preserved
loop-preserved g c = record {
  walked = walk_goes_on (layout_shape c.args.layout) c.requires.has_list.part (λ front. HasPassed c.args.bucket front) (chain_of (layout_shape c.args.layout) (slice_index (g.W.Look.words c.args.words.now))) c.loop.last c.loop.counter c.next_bucket-next.result
      (good_chain c.args.layout (length (g.W.Look.words c.args.words.now)) (slice_index (g.W.Look.words c.args.words.now)) c.requires) c.loop.invariant.walked
      (next_is c.args.layout (length (g.W.Look.words c.args.words.now)) (slice_index (g.W.Look.words c.args.words.now)) c.loop.last c.next_bucket-next.result c.requires c.next_bucket-next.ensures.next) c.if-next-eq0.false (λ h. passed_more c.args.bucket c.next_bucket-next.result c.loop.invariant.walked.front h c.if-next-bucket.false);
}

pub returns : goal.returns
returns g c =
    let inside = (good_chain c.args.layout (length (g.W.Look.words c.args.words.now)) (slice_index (g.W.Look.words c.args.words.now)) c.requires).inside in
    sym (walk_is_over (λ front. HasPassed c.args.bucket front) (chain_of (layout_shape c.args.layout) (slice_index (g.W.Look.words c.args.words.now))) c.loop.last c.loop.counter c.loop.invariant.walked (omega arith)).holds

pub returns-then-next-eq0 : goal.returns-then-next-eq0
returns-then-next-eq0 g c =
    sym (walk_stops (layout_shape c.args.layout) c.requires.has_list.part (λ front. HasPassed c.args.bucket front) (chain_of (layout_shape c.args.layout) (slice_index (g.W.Look.words c.args.words.now))) c.loop.last c.loop.counter c.next_bucket-next.result
    (good_chain c.args.layout (length (g.W.Look.words c.args.words.now)) (slice_index (g.W.Look.words c.args.words.now)) c.requires) c.loop.invariant.walked
    (next_is c.args.layout (length (g.W.Look.words c.args.words.now)) (slice_index (g.W.Look.words c.args.words.now)) c.loop.last c.next_bucket-next.result c.requires c.next_bucket-next.ensures.next) c.if-next-eq0.true).holds

pub returns-then-next-bucket : goal.returns-then-next-bucket
returns-then-next-bucket g c = sym (has_from c.args.bucket (chain_of (layout_shape c.args.layout) (slice_index (g.W.Look.words c.args.words.now))) (subst (IsAmong (chain_of (layout_shape c.args.layout) (slice_index (g.W.Look.words c.args.words.now)))) c.if-next-bucket.true
    (next_among c.args.layout (length (g.W.Look.words c.args.words.now)) (slice_index (g.W.Look.words c.args.words.now)) c.next_bucket-next.result c.requires c.next_bucket-next.ensures.in_chain c.if-next-eq0.false)))
