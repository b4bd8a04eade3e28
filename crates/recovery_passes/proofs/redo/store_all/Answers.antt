use Rattle.std.proofs.Common.{◌+◌, length, take, refl, arith}
use Rattle.lane_traits.specs.declared.device.Done.TheVariants.{Made, Stopped}
use Rattle.persist_model.specs.Shape.{words_of_shape}
use Rattle.log_laws.specs.Recovering.{with_heap}
use Rattle.recovery_analysis.specs.Changes.{stored}
use Rattle.recovery_analysis.proofs.Lists.{among_at}
use Rattle.recovery_passes.proofs.Counting.{counted_more, counted_then}
use Rattle.recovery_passes.proofs.Redoing.{reached_more, word_below}
use Rattle.recovery_passes.proofs.redo.store_all.Goals as goal

pub store-requires-clause-word : goal.store-requires-clause-word
store-requires-clause-word g c =
    let can = c.requires.can in
    let size = (c.loop-change.invariant.made can.0 can.1 can.2 can.3 can.4).come.size in
    word_below c.args.changes.now c.loop-change.change-index _ (words_of_shape can.0) _ c.loop-change-test.true size can.4.below

pub returns-in-Stopped-clause-stopped : goal.returns-in-Stopped-clause-stopped
returns-in-Stopped-clause-stopped g c = λ stopped shape first y sound h may.
    c.in-Stopped.ensures.stopped refl shape first (with_heap y (stored (take c.loop-change.change-index c.args.changes.now) y.words)) sound (c.loop-change.invariant.made shape first y h may)

pub returns-in-Stopped-clause-counted : goal.returns-in-Stopped-clause-counted
returns-in-Stopped-clause-counted g c =
    let i = c.loop-change.change-index in
    let lt = c.loop-change-test.true in
    counted_more (i + 1) (length c.args.changes.now) Stopped (g.D.Device.counts c.args.device.now) (g.D.Device.counts c.store.new.device) (omega (arith, lt))
    (counted_then i 1 Stopped (g.D.Device.counts c.args.device.now) (g.D.Device.counts c.loop-change.device) (g.D.Device.counts c.store.new.device) c.loop-change.invariant.counted c.in-Stopped.ensures.counted)

pub returns-in-Stopped-clause-aside : goal.returns-in-Stopped-clause-aside
returns-in-Stopped-clause-aside g c = λ a v off one.
    c.in-Stopped.ensures.aside a v (λ e. off _ (among_at c.args.changes.now c.loop-change.change-index _ c.loop-change-test.true) e) (c.loop-change.invariant.aside a v off one)

pub loop-change-preserved : goal.loop-change-preserved
loop-change-preserved g c =
    let i = c.loop-change.change-index in
    let lt = c.loop-change-test.true in
    let changes = c.args.changes.now in
    let so_far = c.loop-change.invariant in
    let spare_before = so_far.spare in
    let spare_now = c.in-Made.ensures.spare_left in
    record {
      made = λ shape first y h may.
          let among = among_at changes i _ lt in
          reached_more shape first y (g.D.Device.cells c.store.new.device) changes i _ lt
          (c.in-Made.ensures.made refl shape first (with_heap y (stored (take i changes) y.words)) (so_far.made shape first y h may) (may.above _ among) (may.covered _ among));
      counted = counted_then i 1 Made (g.D.Device.counts c.args.device.now) (g.D.Device.counts c.loop-change.device) (g.D.Device.counts c.store.new.device) so_far.counted c.in-Made.ensures.counted;
      spare = omega (arith, spare_before, spare_now);
      aside = λ a v off one. c.in-Made.ensures.aside a v (λ e. off _ (among_at changes i _ lt) e) (so_far.aside a v off one);
    }
