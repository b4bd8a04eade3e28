use Rattle.std.specs.Prelude.{slice_index, length}
use Rattle.std.proofs.Common.{◌≡◌, arith, ◌∙◌}
use Rattle.atomic_list.specs.Walk.{chain_of}
use Rattle.region_layout.specs.Layout.{layout_shape}
use Rattle.bucket_log.specs.Reads.{count_to}
use Rattle.bucket_log.proofs.Counting.{count_more, count_same}
use Rattle.bucket_log.proofs.Walking.{in_chain, next_is, good_chain, walk_node, walk_goes_to, walk_stops, walk_is_over}
use Rattle.bucket_log.proofs.chain.count_buckets_to.Goals.{then-next-bucket, else-next-bucket}
use Rattle.bucket_log.proofs.chain.count_buckets_to.Goals as goal

pub next_bucket-next-requires-clause-node : goal.next_bucket-next-requires-clause-node
next_bucket-next-requires-clause-node g c = in_chain c.args.layout (length (g.W.Look.words c.args.words.now)) (slice_index (g.W.Look.words c.args.words.now)) c.loop.last c.requires
    (walk_node (λ front. c.loop.count ≡ count_to c.args.bucket front) (chain_of (layout_shape c.args.layout) (slice_index (g.W.Look.words c.args.words.now))) c.loop.last c.loop.counter c.loop.invariant.walked)

pub loop-preserved : goal.loop-preserved
loop-preserved g c =
    let good = good_chain c.args.layout (length (g.W.Look.words c.args.words.now)) (slice_index (g.W.Look.words c.args.words.now)) c.requires in
    let on = walk_goes_to (layout_shape c.args.layout) c.requires.has_list.part (λ front. c.loop.count ≡ count_to c.args.bucket front) (λ front. c.if-next-bucket.count ≡ count_to c.args.bucket front) (chain_of (layout_shape c.args.layout) (slice_index (g.W.Look.words c.args.words.now))) c.loop.last c.loop.counter c.next_bucket-next.result
    good c.loop.invariant.walked (next_is c.args.layout (length (g.W.Look.words c.args.words.now)) (slice_index (g.W.Look.words c.args.words.now)) c.loop.last c.next_bucket-next.result c.requires c.next_bucket-next.ensures.next) c.if-next-eq0.false in
    elim c.if-next-bucket.branch [
      | then-next-bucket w ↦ record {
        walked = on (λ h. w.count-is ∙ count_more c.args.bucket c.next_bucket-next.result c.loop.invariant.walked.front c.loop.count h w.if-next-bucket.true);
        few = (let e = w.count-is in let f = c.loop.invariant.few in omega (arith, e, f));
      }
      | else-next-bucket w ↦ record {
        walked = on (λ h. w.count-is ∙ count_same c.args.bucket c.next_bucket-next.result c.loop.invariant.walked.front c.loop.count h w.if-next-bucket.false);
        few = (let e = w.count-is in let f = c.loop.invariant.few in omega (arith, e, f));
      }
    ]

pub returns-after-loop : goal.returns-after-loop
returns-after-loop g c =
    let inside = (good_chain c.args.layout (length (g.W.Look.words c.args.words.now)) (slice_index (g.W.Look.words c.args.words.now)) c.requires).inside in
    (walk_is_over (λ front. c.loop.count ≡ count_to c.args.bucket front) (chain_of (layout_shape c.args.layout) (slice_index (g.W.Look.words c.args.words.now))) c.loop.last c.loop.counter c.loop.invariant.walked (omega arith)).holds

pub returns-then-next-eq0 : goal.returns-then-next-eq0
returns-then-next-eq0 g c =
    (walk_stops (layout_shape c.args.layout) c.requires.has_list.part (λ front. c.loop.count ≡ count_to c.args.bucket front) (chain_of (layout_shape c.args.layout) (slice_index (g.W.Look.words c.args.words.now))) c.loop.last c.loop.counter c.next_bucket-next.result
    (good_chain c.args.layout (length (g.W.Look.words c.args.words.now)) (slice_index (g.W.Look.words c.args.words.now)) c.requires) c.loop.invariant.walked (next_is c.args.layout (length (g.W.Look.words c.args.words.now)) (slice_index (g.W.Look.words c.args.words.now)) c.loop.last c.next_bucket-next.result c.requires c.next_bucket-next.ensures.next) c.if-next-eq0.true).holds
