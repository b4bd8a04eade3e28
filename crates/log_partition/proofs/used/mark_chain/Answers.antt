use Rattle.std.specs.Prelude.{slice_index, length}
use Rattle.std.proofs.Common.{refl, arith}
use Rattle.atomic_list.specs.Walk.{chain_of}
use Rattle.region_layout.specs.Layout.{layout_shape}
use Rattle.bucket_log.proofs.Walking.{in_chain, next_is, good_chain, walk_node, walk_goes_to, walk_stops, walk_is_over}
use Rattle.log_partition.specs.Marks.{AddsMarks}
use Rattle.log_partition.proofs.Marking.{chain_place, marks_go_on}
use Rattle.log_partition.proofs.used.mark_chain.Goals as goal

pub next_bucket-next-requires-clause-node : goal.next_bucket-next-requires-clause-node
next_bucket-next-requires-clause-node g c = in_chain c.args.layout (length (g.W.Look.words c.args.words.now)) (slice_index (g.W.Look.words c.args.words.now)) c.loop.last c.requires.log
    (walk_node _ (chain_of (layout_shape c.args.layout) (slice_index (g.W.Look.words c.args.words.now))) c.loop.last c.loop.counter c.loop.invariant)

pub mark-requires : goal.mark-requires
mark-requires g c = chain_place c.args.layout (length (g.W.Look.words c.args.words.now)) (slice_index (g.W.Look.words c.args.words.now)) c.requires.log c.next_bucket-next.result
    c.args.marks.now.items c.loop.marks.items c.requires.marks c.loop.invariant.holds.long c.next_bucket-next.ensures.in_chain c.if-next-eq0.false

pub loop-preserved : goal.loop-preserved
loop-preserved g c =
    let good = good_chain c.args.layout (length (g.W.Look.words c.args.words.now)) (slice_index (g.W.Look.words c.args.words.now)) c.requires.log in
    let place = chain_place c.args.layout (length (g.W.Look.words c.args.words.now)) (slice_index (g.W.Look.words c.args.words.now)) c.requires.log c.next_bucket-next.result
    c.args.marks.now.items c.args.marks.now.items c.requires.marks refl c.next_bucket-next.ensures.in_chain c.if-next-eq0.false in
    walk_goes_to (layout_shape c.args.layout) c.requires.log.has_list.part (λ front. AddsMarks (layout_shape c.args.layout) front c.args.marks.now.items c.loop.marks.items)
    (λ front. AddsMarks (layout_shape c.args.layout) front c.args.marks.now.items c.mark.new.marks.items)
    (chain_of (layout_shape c.args.layout) (slice_index (g.W.Look.words c.args.words.now))) c.loop.last c.loop.counter c.next_bucket-next.result good c.loop.invariant
    (next_is c.args.layout (length (g.W.Look.words c.args.words.now)) (slice_index (g.W.Look.words c.args.words.now)) c.loop.last c.next_bucket-next.result c.requires.log c.next_bucket-next.ensures.next) c.if-next-eq0.false
    (λ h. marks_go_on (layout_shape c.args.layout) c.loop.invariant.front c.args.marks.now.items c.loop.marks.items c.mark.new.marks.items c.next_bucket-next.result place.0 place.1 place.2
    (c.mark.ensures place.0 place.2) h)

pub returns-after-loop : goal.returns-after-loop
returns-after-loop g c =
    let inside = (good_chain c.args.layout (length (g.W.Look.words c.args.words.now)) (slice_index (g.W.Look.words c.args.words.now)) c.requires.log).inside in
    (walk_is_over (λ front. AddsMarks (layout_shape c.args.layout) front c.args.marks.now.items c.loop.marks.items)
    (chain_of (layout_shape c.args.layout) (slice_index (g.W.Look.words c.args.words.now))) c.loop.last c.loop.counter c.loop.invariant (omega arith)).holds

pub returns-then-next-eq0 : goal.returns-then-next-eq0
returns-then-next-eq0 g c =
    (walk_stops (layout_shape c.args.layout) c.requires.log.has_list.part (λ front. AddsMarks (layout_shape c.args.layout) front c.args.marks.now.items c.loop.marks.items)
    (chain_of (layout_shape c.args.layout) (slice_index (g.W.Look.words c.args.words.now))) c.loop.last c.loop.counter c.next_bucket-next.result
    (good_chain c.args.layout (length (g.W.Look.words c.args.words.now)) (slice_index (g.W.Look.words c.args.words.now)) c.requires.log) c.loop.invariant
    (next_is c.args.layout (length (g.W.Look.words c.args.words.now)) (slice_index (g.W.Look.words c.args.words.now)) c.loop.last c.next_bucket-next.result c.requires.log c.next_bucket-next.ensures.next) c.if-next-eq0.true).holds
