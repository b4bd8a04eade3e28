use Rattle.std.proofs.Common.{◌*◌, ◌+◌, inl, inr, refl, sym, ◌∙◌, subst, arith}
use Rattle.std.proofs.lemmas.Bool.Decides.{eqb_tells}
use Rattle.persist_model.specs.Region.{Region}
use Rattle.lane_traits.specs.declared.device.Done.TheVariants.{Made, Stopped}
use Rattle.region_layout.specs.Layout.{layout_shape}
use Rattle.recovery_run.specs.Edges.{IsPlainHeaderWord}
use Rattle.recovery_run.specs.Reached.{newest_at, IsQuiet}
use Rattle.recovery_passes.proofs.Counting.{counted_more, counted_then, keeps_then}
use Rattle.recovery_passes.proofs.list_stages.repair_all.Goals as goal

pub repair-requires-clause-settled : goal.repair-requires-clause-settled
repair-requires-clause-settled g c = let at = c.requires.settled in record { first = at.first; state = at.state; settled = c.loop-p.invariant.settled at.first at.state at.settled }

pub returns-in-Stopped-clause-stopped : goal.returns-in-Stopped-clause-stopped
returns-in-Stopped-clause-stopped g c = λ stopped first y sound h. c.in-Stopped.ensures.stopped refl first y sound (c.loop-p.invariant.settled first y h)

pub returns-in-Stopped-clause-counted : goal.returns-in-Stopped-clause-counted
returns-in-Stopped-clause-counted g c =
    let p = c.loop-p.p in
    let below = c.loop-p-test.true in
    let most = c.args.layout.partitions_within in
    counted_more (5 * p + 5) 15 Stopped (g.D.Device.counts c.args.device.now) (g.D.Device.counts c.repair.new.device) (omega (arith, below, most))
    (counted_then (5 * p) 5 Stopped (g.D.Device.counts c.args.device.now) (g.D.Device.counts c.loop-p.device) (g.D.Device.counts c.repair.new.device) c.loop-p.invariant.counted c.in-Stopped.ensures.counted)

pub returns-in-Stopped-clause-header : goal.returns-in-Stopped-clause-header
returns-in-Stopped-clause-header g c =
    keeps_then (IsPlainHeaderWord (layout_shape c.args.layout)) (g.D.Device.cells c.args.device.now) (g.D.Device.cells c.loop-p.device) (g.D.Device.cells c.repair.new.device)
    c.loop-p.invariant.header c.in-Stopped.ensures.header

pub loop-p-preserved : goal.loop-p-preserved
loop-p-preserved g c =
    let p = c.loop-p.p in
    let so_far = c.loop-p.invariant in
    let made = c.in-Made.ensures in
    let spare_before = so_far.spare in
    let spare_now = made.spare_left in
    record {
      settled = λ first y h. made.made refl first y (so_far.settled first y h);
      quiet = λ q lt. elim (eqb_tells q p) [
        | inl t ↦ subst (λ r. IsQuiet r (newest_at (g.D.Device.cells c.repair.new.device))) (sym t.1) (made.quiet refl)
        | inr f ↦ (made.lists refl).quiet q (let ne = f.1 in let below = c.loop-p-test.true in omega (arith, lt, ne, below)) (so_far.quiet q (let ne = f.1 in omega (arith, lt, ne)))
      ];
      counted = counted_more (5 * p + 5) (5 * (p + 1)) Made (g.D.Device.counts c.args.device.now) (g.D.Device.counts c.repair.new.device) (omega arith)
          (counted_then (5 * p) 5 Made (g.D.Device.counts c.args.device.now) (g.D.Device.counts c.loop-p.device) (g.D.Device.counts c.repair.new.device) so_far.counted made.counted);
      spare = omega (arith, spare_before, spare_now);
      header = keeps_then (IsPlainHeaderWord (layout_shape c.args.layout)) (g.D.Device.cells c.args.device.now) (g.D.Device.cells c.loop-p.device) (g.D.Device.cells c.repair.new.device) so_far.header made.header;
      idle = λ quiet.
          let before = so_far.idle quiet in
          let none = made.none_asked (subst (λ (r : Region). IsQuiet p (newest_at r)) (sym before.cells) (quiet p c.loop-p-test.true)) in
          record { made = refl; cells = none.1 ∙ before.cells; same = none.2 ∙ before.same };
    }
