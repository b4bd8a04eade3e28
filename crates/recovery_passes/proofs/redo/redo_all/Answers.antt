use Rattle.std.proofs.Common.{◌≡◌, ◌+◌, [], List, length, refl, sym, ◌∙◌, subst, arith}
use Rattle.lane_traits.specs.declared.device.Done.TheVariants.{Stopped}
use Rattle.log_laws.specs.Recovering.{with_heap}
use Rattle.recovery_run.specs.Reached.{HasSettled}
use Rattle.recovery_run.proofs.Reaching.{settled_reached}
use Rattle.recovery_analysis.specs.Changes.{stored}
use Rattle.recovery_analysis.specs.declared.changing.Change.{Change}
use Rattle.recovery_passes.proofs.Redoing.{no_changes}
use Rattle.recovery_passes.proofs.Counting.{counted_more, counted_then}
use Rattle.recovery_passes.proofs.redo.redo_all.Goals as goal

pub returns-then-is_empty-clause-made : goal.returns-then-is_empty-clause-made
returns-then-is_empty-clause-made g c = λ made shape first y h may.
    let none : c.args.changes.now ≡ [] = no_changes c.args.changes.now (sym c.is_empty.ensures ∙ c.if-is_empty.true) in
    subst (λ (changes : List Change). HasSettled shape first (with_heap y (stored changes y.words)) (g.D.Device.cells c.args.device.now)) (sym none) h

pub store_all-requires-clause-can : goal.store_all-requires-clause-can
store_all-requires-clause-can g c = let can = c.requires.can in (can.0, can.1, can.2, settled_reached can.0 can.1 can.2 (g.D.Device.cells c.args.device.now) can.3, can.4)

pub returns-in-Stopped-clause-stopped : goal.returns-in-Stopped-clause-stopped
returns-in-Stopped-clause-stopped g c = λ stopped shape first y sound h may.
    c.in-Stopped.ensures.stopped refl shape first y sound (settled_reached shape first y (g.D.Device.cells c.args.device.now) h) may

pub returns-in-Stopped-clause-counted : goal.returns-in-Stopped-clause-counted
returns-in-Stopped-clause-counted g c =
    counted_more (length c.args.changes.now) (length c.args.changes.now + 1) Stopped (g.D.Device.counts c.args.device.now) (g.D.Device.counts c.store_all.new.device) (omega arith) c.in-Stopped.ensures.counted

pub returns-clause-made : goal.returns-clause-made
returns-clause-made g c = λ made shape first y h may.
    c.fence.ensures.made made shape first (with_heap y (stored c.args.changes.now y.words)) (c.in-Made.ensures.made refl shape first y (settled_reached shape first y (g.D.Device.cells c.args.device.now) h) may)

pub returns-clause-stopped : goal.returns-clause-stopped
returns-clause-stopped g c = λ stopped shape first y sound h may.
    c.fence.ensures.stopped stopped shape first (with_heap y (stored c.args.changes.now y.words)) sound
    (c.in-Made.ensures.made refl shape first y (settled_reached shape first y (g.D.Device.cells c.args.device.now) h) may)

pub returns-clause-counted : goal.returns-clause-counted
returns-clause-counted g c =
    counted_then (length c.args.changes.now) 1 c.fence.result (g.D.Device.counts c.args.device.now) (g.D.Device.counts c.store_all.new.device) (g.D.Device.counts c.fence.new.device)
    c.in-Made.ensures.counted c.fence.ensures.counted

pub returns-clause-aside : goal.returns-clause-aside
returns-clause-aside g c = λ a v off one. c.fence.ensures.aside a v tt (c.in-Made.ensures.aside a v off one)
