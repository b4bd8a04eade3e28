use Rattle.std.proofs.Common.{◌≡◌, ◌*◌, ◌+◌, inl, inr, refl, sym, ap, ◌∙◌, subst, arith}
use Rattle.std.proofs.lemmas.Bool.Decides.{eqb_tells}
use Rattle.persist_model.specs.Region.{Region}
use Rattle.persist_model.specs.Shape.{count_buckets}
use Rattle.lane_traits.specs.declared.device.Done.TheVariants.{Made, Stopped}
use Rattle.region_layout.specs.Layout.{layout_shape}
use Rattle.recovery_run.specs.Edges.{HasCounted, IsPlainHeaderWord}
use Rattle.recovery_run.specs.Reached.{newest_at, HasFewBuckets}
use Rattle.recovery_passes.proofs.Buckets.{buckets_before, none_before, one_part_more, all_before, few_before}
use Rattle.recovery_passes.proofs.Counting.{counted_none, counted_more, counted_then, keeps_then}
use Rattle.recovery_passes.proofs.list_stages.drop_all.Goals as goal

pub loop-p-init : goal.loop-p-init
loop-p-init g c =
    let shape = layout_shape c.args.layout in
    let some = c.args.layout.partitions_within in
    let none : buckets_before shape 0 ≡ 0 = none_before shape (omega (arith, some)) in
    record {
      dropped = λ first y h empty. record { state = y; settled = h; empty = empty; words = refl };
      quiet = c.requires.quiet;
      few = λ q lt. absurd (omega (arith, lt));
      counted = counted_more 0 (7 * buckets_before shape 0) Made (g.D.Device.counts c.args.device.now) (g.D.Device.counts c.args.device.now) (omega arith) (counted_none (g.D.Device.counts c.args.device.now));
      spare = omega arith;
      header = λ a v m one. one;
      idle = λ short. record { made = refl; cells = refl; same = refl };
    }

pub drop_closed-requires-clause-empty : goal.drop_closed-requires-clause-empty
drop_closed-requires-clause-empty g c =
    let at = c.requires.settled in
    let now = c.loop-p.invariant.dropped at.0 at.1 at.2 at.3 in
    record { at = record { first = at.0; state = now.state; settled = now.settled }; empty = now.empty; quiet = c.loop-p.invariant.quiet c.loop-p.p c.loop-p-test.true }

pub drop_closed-requires-clause-spare : goal.drop_closed-requires-clause-spare
drop_closed-requires-clause-spare g c =
    let few = few_before (layout_shape c.args.layout) c.loop-p.p c.loop-p-test.true in
    let enough = c.requires.spare in
    let left = c.loop-p.invariant.spare in
    omega (arith, few, enough, left)

pub returns-in-Stopped-clause-stopped : goal.returns-in-Stopped-clause-stopped
returns-in-Stopped-clause-stopped g c = λ stopped first y sound h empty.
    let now = c.loop-p.invariant.dropped first y h empty in
    c.in-Stopped.ensures.stopped refl first now.state sound now.settled now.empty

pub returns-in-Stopped-clause-counted : goal.returns-in-Stopped-clause-counted
returns-in-Stopped-clause-counted g c =
    let shape = layout_shape c.args.layout in
    let p = c.loop-p.p in
    let few = few_before shape p c.loop-p-test.true in
    counted_more (7 * buckets_before shape p + 7 * count_buckets shape p) (7 * shape.buckets) Stopped (g.D.Device.counts c.args.device.now) (g.D.Device.counts c.drop_closed.new.device) (omega (arith, few))
    (counted_then (7 * buckets_before shape p) (7 * count_buckets shape p) Stopped (g.D.Device.counts c.args.device.now) (g.D.Device.counts c.loop-p.device) (g.D.Device.counts c.drop_closed.new.device)
    c.loop-p.invariant.counted c.in-Stopped.ensures.counted)

pub returns-in-Stopped-clause-header : goal.returns-in-Stopped-clause-header
returns-in-Stopped-clause-header g c =
    keeps_then (IsPlainHeaderWord (layout_shape c.args.layout)) (g.D.Device.cells c.args.device.now) (g.D.Device.cells c.loop-p.device) (g.D.Device.cells c.drop_closed.new.device)
    c.loop-p.invariant.header c.in-Stopped.ensures.header

pub returns-in-Stopped-clause-spare_left : goal.returns-in-Stopped-clause-spare_left
returns-in-Stopped-clause-spare_left g c =
    let few = few_before (layout_shape c.args.layout) c.loop-p.p c.loop-p-test.true in
    let before = c.loop-p.invariant.spare in
    let now = c.in-Stopped.ensures.spare_left in
    omega (arith, few, before, now)

pub loop-p-preserved : goal.loop-p-preserved
loop-p-preserved g c =
    let shape = layout_shape c.args.layout in
    let p = c.loop-p.p in
    let so_far = c.loop-p.invariant in
    let made = c.in-Made.ensures in
    let more = one_part_more shape p c.loop-p-test.true in
    let spare_before = so_far.spare in
    let spare_now = made.spare_left in
    record {
      dropped = λ first y h empty.
          let now = so_far.dropped first y h empty in
          let next = made.made refl first now.state now.settled now.empty in
          record { state = next.state; settled = next.settled; empty = next.empty; words = next.words ∙ now.words };
      quiet = λ q lt. (made.lists refl).quiet q lt (so_far.quiet q lt);
      few = λ q lt. elim (eqb_tells q p) [
        | inl t ↦ subst (λ r. HasFewBuckets shape r (newest_at (g.D.Device.cells c.drop_closed.new.device))) (sym t.1) (made.few refl)
        | inr f ↦ (made.lists refl).few q (let ne = f.1 in let below = c.loop-p-test.true in omega (arith, lt, ne, below)) (so_far.few q (let ne = f.1 in omega (arith, lt, ne)))
      ];
      counted = counted_more (7 * buckets_before shape p + 7 * count_buckets shape p) (7 * buckets_before shape (p + 1)) Made (g.D.Device.counts c.args.device.now) (g.D.Device.counts c.drop_closed.new.device) (omega (arith, more))
          (counted_then (7 * buckets_before shape p) (7 * count_buckets shape p) Made (g.D.Device.counts c.args.device.now) (g.D.Device.counts c.loop-p.device) (g.D.Device.counts c.drop_closed.new.device) so_far.counted made.counted);
      spare = omega (arith, spare_before, spare_now, more);
      header = keeps_then (IsPlainHeaderWord shape) (g.D.Device.cells c.args.device.now) (g.D.Device.cells c.loop-p.device) (g.D.Device.cells c.drop_closed.new.device) so_far.header made.header;
      idle = λ short.
          let before = so_far.idle short in
          let none = made.none_closed (subst (λ (r : Region). HasFewBuckets shape p (newest_at r)) (sym before.cells) (short p c.loop-p-test.true)) in
          record { made = refl; cells = none.1 ∙ before.cells; same = none.2 ∙ before.same };
    }

pub returns-clause-counted : goal.returns-clause-counted
returns-clause-counted g c =
    let shape = layout_shape c.args.layout in
    let end = c.loop-p-test.false in
    let upto = c.loop-p.auto.p-end in
    let is : c.loop-p.p ≡ shape.partitions = omega (arith, end, upto) in
    subst (λ n. HasCounted (7 * n) Made (g.D.Device.counts c.args.device.now) (g.D.Device.counts c.loop-p.device)) (ap (buckets_before shape) is ∙ all_before shape) c.loop-p.invariant.counted

pub returns-clause-few : goal.returns-clause-few
returns-clause-few g c = λ made q lt. let end = c.loop-p-test.false in c.loop-p.invariant.few q (omega (arith, end, lt))

pub returns-clause-spare_left : goal.returns-clause-spare_left
returns-clause-spare_left g c =
    let shape = layout_shape c.args.layout in
    let end = c.loop-p-test.false in
    let upto = c.loop-p.auto.p-end in
    let is : c.loop-p.p ≡ shape.partitions = omega (arith, end, upto) in
    let whole : buckets_before shape c.loop-p.p ≡ shape.buckets = ap (buckets_before shape) is ∙ all_before shape in
    let left = c.loop-p.invariant.spare in
    omega (arith, whole, left)

pub returns-in-Stopped-clause-idle : goal.returns-in-Stopped-clause-idle
returns-in-Stopped-clause-idle g c = λ short.
    let before = c.loop-p.invariant.idle short in
    let p = c.loop-p.p in
    let none = c.in-Stopped.ensures.none_closed (subst (λ (r : Region). HasFewBuckets (layout_shape c.args.layout) p (newest_at r)) (sym before.cells) (short p c.loop-p-test.true)) in
    let made = none.0 in
    cc
