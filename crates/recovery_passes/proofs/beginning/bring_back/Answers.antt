use Rattle.std.proofs.Common.{◌+◌, ℕ, List, length, refl, sym, subst, arith}
use Rattle.lane_traits.specs.declared.device.Done.TheVariants.{Made, Stopped}
use Rattle.std.specs.Prelude.{slice_index}
use Rattle.log_laws.specs.Recovering.{with_heap}
use Rattle.region_layout.specs.Layout.{layout_shape}
use Rattle.log_partition.specs.Merging.{AreLogsOf}
use Rattle.log_partition.specs.Used.{KnowsChains, chains_in}
use Rattle.recovery_run.proofs.Reaching.{settled_reached}
use Rattle.recovery_undo.specs.RecoveryAppends.{KnowsRegion}
use Rattle.recovery_undo.proofs.Places.{logs_of}
use Rattle.recovery_analysis.specs.Changes.{stored}
use Rattle.recovery_passes.specs.LoserPass.{begin_events, undo_all_events}
use Rattle.recovery_passes.proofs.Counting.{counted_more, counted_then}
use Rattle.recovery_passes.proofs.Starting.{may_store, stores_above, undoes_at}
use Rattle.recovery_passes.proofs.beginning.bring_back.Goals as goal
use Rattle.recovery_passes.proofs.beginning.bring_back.Goals.{After-read}

pub returns-in-Stopped-clause-stopped : goal.returns-in-Stopped-clause-stopped
returns-in-Stopped-clause-stopped g c = λ stopped first total h enough. c.in-Stopped.ensures.stopped refl first first h.sound h.settled

pub redo_all-requires-clause-can : goal.redo_all-requires-clause-can
redo_all-requires-clause-can g c =
    let r = c.requires in
    (layout_shape c.args.layout, r.0, r.0, c.in-Made.ensures.made refl r.0 r.0 r.2.settled, may_store c.args.layout r.0 r.1 c.args.redo.now c.args.running.now c.args.held.now (g.D.Device.cells c.args.device.now) r.2)

pub returns-in-Stopped-redo_all-clause-stopped : goal.returns-in-Stopped-redo_all-clause-stopped
returns-in-Stopped-redo_all-clause-stopped g c = λ stopped first total h enough.
    c.in-Stopped-redo_all.ensures.stopped refl (layout_shape c.args.layout) first first h.sound (c.in-Made.ensures.made refl first first h.settled)
    (may_store c.args.layout first total c.args.redo.now c.args.running.now c.args.held.now (g.D.Device.cells c.args.device.now) h)

pub returns-in-Stopped-redo_all-clause-counted : goal.returns-in-Stopped-redo_all-clause-counted
returns-in-Stopped-redo_all-clause-counted g c = λ first total h enough.
    counted_more (15 + (length c.args.redo.now + 1)) (begin_events c.args.layout first.log c.args.redo.now c.args.running.now) Stopped (g.D.Device.counts c.args.device.now) (g.D.Device.counts c.redo_all.new.device) (omega arith)
    (counted_then 15 (length c.args.redo.now + 1) Stopped (g.D.Device.counts c.args.device.now) (g.D.Device.counts c.repair_all.new.device) (g.D.Device.counts c.redo_all.new.device) c.in-Made.ensures.counted
    c.in-Stopped-redo_all.ensures.counted)

pub returns-in-Stopped-redo_all-clause-header : goal.returns-in-Stopped-redo_all-clause-header
returns-in-Stopped-redo_all-clause-header g c = λ a v is one.
    let r = c.requires in
    c.in-Stopped-redo_all.ensures.aside a v (stores_above c.args.layout r.0 r.1 c.args.redo.now c.args.running.now c.args.held.now (g.D.Device.cells c.args.device.now) r.2 a is.below)
    (c.in-Made.ensures.header a v is one)

pub read-requires-clause-logs : goal.read-requires-clause-logs
read-requires-clause-logs g c =
    let r = c.requires in
    let shape = layout_shape c.args.layout in
    let settled = c.in-Made.ensures.made refl r.0 r.0 r.2.settled in
    let there = c.in-Made-redo_all.ensures.made refl shape r.0 r.0 settled
    (may_store c.args.layout r.0 r.1 c.args.redo.now c.args.running.now c.args.held.now (g.D.Device.cells c.args.device.now) r.2) in
    let y = with_heap r.0 (stored c.args.redo.now r.0.words) in
    subst (λ (xs : List ℕ). AreLogsOf c.args.layout (length xs) (slice_index xs)) (sym (g.met.D.Device.reads c.redo_all.new.device))
    (logs_of c.args.layout r.0 y (g.D.Device.cells c.redo_all.new.device) (settled_reached shape r.0 y (g.D.Device.cells c.redo_all.new.device) there))

-- the table has the chains once it is read
knows : (g : _) (c : After-read g) → KnowsRegion c.args.layout c.read.new.self (g.D.Device.cells c.redo_all.new.device)
knows g c =
    subst (λ (xs : List ℕ). KnowsChains (layout_shape c.args.layout) c.read.new.self (chains_in (layout_shape c.args.layout) (slice_index xs))) (g.met.D.Device.reads c.redo_all.new.device) c.read.ensures

pub undo_all-requires : goal.undo_all-requires
undo_all-requires g c =
    let r = c.requires in
    let few = c.args.layout.partitions_within in
    let settled = c.in-Made.ensures.made refl r.0 r.0 r.2.settled in
    let there = c.in-Made-redo_all.ensures.made refl (layout_shape c.args.layout) r.0 r.0 settled
    (may_store c.args.layout r.0 r.1 c.args.redo.now c.args.running.now c.args.held.now (g.D.Device.cells c.args.device.now) r.2) in
    let undoes = undoes_at c.args.layout r.0 r.1 c.args.redo.now c.args.running.now c.args.held.now (g.D.Device.cells c.args.device.now) r.2 c.read.new.self (g.D.Device.cells c.repair_all.new.device)
    (g.D.Device.cells c.redo_all.new.device) (omega (arith, few)) settled (c.in-Made.ensures.quiet refl) there c.in-Made-redo_all.ensures.aside (knows g (goal.at.undo_all-requires g c).After-read) in
    let enough = r.3 in
    let first_left = c.in-Made.ensures.spare_left in
    let second_left = c.in-Made-redo_all.ensures.spare_left in
    (r.0, r.1, undoes, omega (arith, enough, first_left, second_left))

pub returns-clause-made : goal.returns-clause-made
returns-clause-made g c = λ made first total h enough.
    let few = c.args.layout.partitions_within in
    let settled = c.in-Made.ensures.made refl first first h.settled in
    let there = c.in-Made-redo_all.ensures.made refl (layout_shape c.args.layout) first first settled
    (may_store c.args.layout first total c.args.redo.now c.args.running.now c.args.held.now (g.D.Device.cells c.args.device.now) h) in
    let undoes = undoes_at c.args.layout first total c.args.redo.now c.args.running.now c.args.held.now (g.D.Device.cells c.args.device.now) h c.read.new.self (g.D.Device.cells c.repair_all.new.device)
    (g.D.Device.cells c.redo_all.new.device) (omega (arith, few)) settled (c.in-Made.ensures.quiet refl) there c.in-Made-redo_all.ensures.aside (knows g (goal.at.returns-clause-made g c).After-read) in
    let first_left = c.in-Made.ensures.spare_left in
    let second_left = c.in-Made-redo_all.ensures.spare_left in
    c.undo_all.ensures.made made first total undoes (omega (arith, enough, first_left, second_left))

pub returns-clause-stopped : goal.returns-clause-stopped
returns-clause-stopped g c = λ stopped first total h enough.
    let few = c.args.layout.partitions_within in
    let settled = c.in-Made.ensures.made refl first first h.settled in
    let there = c.in-Made-redo_all.ensures.made refl (layout_shape c.args.layout) first first settled
    (may_store c.args.layout first total c.args.redo.now c.args.running.now c.args.held.now (g.D.Device.cells c.args.device.now) h) in
    let undoes = undoes_at c.args.layout first total c.args.redo.now c.args.running.now c.args.held.now (g.D.Device.cells c.args.device.now) h c.read.new.self (g.D.Device.cells c.repair_all.new.device)
    (g.D.Device.cells c.redo_all.new.device) (omega (arith, few)) settled (c.in-Made.ensures.quiet refl) there c.in-Made-redo_all.ensures.aside (knows g (goal.at.returns-clause-stopped g c).After-read) in
    let first_left = c.in-Made.ensures.spare_left in
    let second_left = c.in-Made-redo_all.ensures.spare_left in
    c.undo_all.ensures.stopped stopped first total undoes (omega (arith, enough, first_left, second_left))

pub returns-clause-counted : goal.returns-clause-counted
returns-clause-counted g c = λ first total h enough.
    let few = c.args.layout.partitions_within in
    let settled = c.in-Made.ensures.made refl first first h.settled in
    let there = c.in-Made-redo_all.ensures.made refl (layout_shape c.args.layout) first first settled
    (may_store c.args.layout first total c.args.redo.now c.args.running.now c.args.held.now (g.D.Device.cells c.args.device.now) h) in
    let undoes = undoes_at c.args.layout first total c.args.redo.now c.args.running.now c.args.held.now (g.D.Device.cells c.args.device.now) h c.read.new.self (g.D.Device.cells c.repair_all.new.device)
    (g.D.Device.cells c.redo_all.new.device) (omega (arith, few)) settled (c.in-Made.ensures.quiet refl) there c.in-Made-redo_all.ensures.aside (knows g (goal.at.returns-clause-counted g c).After-read) in
    let first_left = c.in-Made.ensures.spare_left in
    let second_left = c.in-Made-redo_all.ensures.spare_left in
    counted_then (15 + (length c.args.redo.now + 1)) (undo_all_events c.args.layout first.log c.args.running.now) c.undo_all.result (g.D.Device.counts c.args.device.now) (g.D.Device.counts c.redo_all.new.device)
    (g.D.Device.counts c.undo_all.new.device)
    (counted_then 15 (length c.args.redo.now + 1) Made (g.D.Device.counts c.args.device.now) (g.D.Device.counts c.repair_all.new.device) (g.D.Device.counts c.redo_all.new.device) c.in-Made.ensures.counted
    c.in-Made-redo_all.ensures.counted) (c.undo_all.ensures.counted first total undoes (omega (arith, enough, first_left, second_left)))

pub returns-clause-spare_left : goal.returns-clause-spare_left
returns-clause-spare_left g c = λ first total h enough.
    let few = c.args.layout.partitions_within in
    let settled = c.in-Made.ensures.made refl first first h.settled in
    let there = c.in-Made-redo_all.ensures.made refl (layout_shape c.args.layout) first first settled
    (may_store c.args.layout first total c.args.redo.now c.args.running.now c.args.held.now (g.D.Device.cells c.args.device.now) h) in
    let undoes = undoes_at c.args.layout first total c.args.redo.now c.args.running.now c.args.held.now (g.D.Device.cells c.args.device.now) h c.read.new.self (g.D.Device.cells c.repair_all.new.device)
    (g.D.Device.cells c.redo_all.new.device) (omega (arith, few)) settled (c.in-Made.ensures.quiet refl) there c.in-Made-redo_all.ensures.aside (knows g (goal.at.returns-clause-spare_left g c).After-read) in
    let first_left = c.in-Made.ensures.spare_left in
    let second_left = c.in-Made-redo_all.ensures.spare_left in
    let third_left = c.undo_all.ensures.spare_left first total undoes (omega (arith, enough, first_left, second_left)) in
    omega (arith, first_left, second_left, third_left)

pub returns-clause-header : goal.returns-clause-header
returns-clause-header g c = λ a v is one.
    let r = c.requires in
    c.undo_all.ensures.header a v is
    (c.in-Made-redo_all.ensures.aside a v (stores_above c.args.layout r.0 r.1 c.args.redo.now c.args.running.now c.args.held.now (g.D.Device.cells c.args.device.now) r.2 a is.below)
    (c.in-Made.ensures.header a v is one))
