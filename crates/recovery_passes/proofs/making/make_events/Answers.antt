use Rattle.std.proofs.Common.{◌≤◌, ◌+◌, refl, sym, ◌∙◌, subst, arith}
use Rattle.lane_traits.specs.declared.device.Done.TheVariants.{Stopped}
use Rattle.persist_model.specs.Region.{Region}
use Rattle.region_layout.specs.Layout.{layout_shape}
use Rattle.recovery_run.specs.Edges.{HasCounted, IsPlainHeaderWord}
use Rattle.recovery_passes.specs.LoserPass.{begin_events, clear_events, HasNoGates}
use Rattle.recovery_passes.specs.Stages.{AreShort}
use Rattle.recovery_passes.proofs.Counting.{counted_more, counted_then, keeps_then}
use Rattle.recovery_passes.proofs.Bounds.{planned_total, plan_begins, plan_fits, total_is, none_redone, none_running, none_wanted, no_gates}
use Rattle.recovery_passes.proofs.making.make_events.Goals as goal

pub bring_back-requires : goal.bring_back-requires
bring_back-requires g c =
    let first = c.requires.0 in
    let most = c.requires.1 in
    let h = c.requires.2 in
    let enough = c.requires.3 in
    let fits = plan_fits c.args.layout first c.args.redo.now c.args.running.now c.args.checkpoint c.args.held most (g.D.Device.cells c.args.device.now) h in
    let begins = plan_begins c.args.layout first c.args.redo.now c.args.running.now c.args.checkpoint c.args.held most (g.D.Device.cells c.args.device.now) h in
    let total = planned_total c.args.layout first c.args.redo.now c.args.running.now c.args.checkpoint c.args.held most (g.D.Device.cells c.args.device.now) h in
    (first, total, begins, omega (arith, fits, enough))

pub returns-in-Stopped-clause-stopped : goal.returns-in-Stopped-clause-stopped
returns-in-Stopped-clause-stopped g c = λ stopped first most h enough.
    let fits = plan_fits c.args.layout first c.args.redo.now c.args.running.now c.args.checkpoint c.args.held most (g.D.Device.cells c.args.device.now) h in
    let begins = plan_begins c.args.layout first c.args.redo.now c.args.running.now c.args.checkpoint c.args.held most (g.D.Device.cells c.args.device.now) h in
    let total = planned_total c.args.layout first c.args.redo.now c.args.running.now c.args.checkpoint c.args.held most (g.D.Device.cells c.args.device.now) h in
    c.in-Stopped.ensures.stopped refl first total begins (omega (arith, fits, enough))

pub returns-in-Stopped-clause-counted : goal.returns-in-Stopped-clause-counted
returns-in-Stopped-clause-counted g c = λ first some h enough.
    let most = some + 1 in
    let fits = plan_fits c.args.layout first c.args.redo.now c.args.running.now c.args.checkpoint c.args.held most (g.D.Device.cells c.args.device.now) h in
    let begins = plan_begins c.args.layout first c.args.redo.now c.args.running.now c.args.checkpoint c.args.held most (g.D.Device.cells c.args.device.now) h in
    let total = planned_total c.args.layout first c.args.redo.now c.args.running.now c.args.checkpoint c.args.held most (g.D.Device.cells c.args.device.now) h in
    counted_more (begin_events c.args.layout first.log c.args.redo.now c.args.running.now) some Stopped (g.D.Device.counts c.args.device.now) (g.D.Device.counts c.bring_back.new.device) (omega (arith, fits))
    (c.in-Stopped.ensures.counted first total begins (omega (arith, fits, enough)))

pub returns-in-Stopped-clause-spare_left : goal.returns-in-Stopped-clause-spare_left
returns-in-Stopped-clause-spare_left g c = λ first most h enough.
    let fits = plan_fits c.args.layout first c.args.redo.now c.args.running.now c.args.checkpoint c.args.held most (g.D.Device.cells c.args.device.now) h in
    let begins = plan_begins c.args.layout first c.args.redo.now c.args.running.now c.args.checkpoint c.args.held most (g.D.Device.cells c.args.device.now) h in
    let total = planned_total c.args.layout first c.args.redo.now c.args.running.now c.args.checkpoint c.args.held most (g.D.Device.cells c.args.device.now) h in
    let left = c.in-Stopped.ensures.spare_left first total begins (omega (arith, fits, enough)) in
    omega (arith, fits, left)

pub returns-in-Stopped-clause-idle : goal.returns-in-Stopped-clause-idle
returns-in-Stopped-clause-idle g c = λ first most h empty quiet short.
    let a = c.in-Stopped.ensures.idle quiet
    (none_redone c.args.layout first c.args.redo.now c.args.running.now c.args.checkpoint c.args.held most (g.D.Device.cells c.args.device.now) h empty)
    (none_running c.args.layout first c.args.redo.now c.args.running.now c.args.checkpoint c.args.held most (g.D.Device.cells c.args.device.now) h empty) in
    let made = a.made in
    cc

pub clear-requires-clause-can : goal.clear-requires-clause-can
clear-requires-clause-can g c =
    let first = c.requires.0 in
    let most = c.requires.1 in
    let h = c.requires.2 in
    let enough = c.requires.3 in
    let fits = plan_fits c.args.layout first c.args.redo.now c.args.running.now c.args.checkpoint c.args.held most (g.D.Device.cells c.args.device.now) h in
    let begins = plan_begins c.args.layout first c.args.redo.now c.args.running.now c.args.checkpoint c.args.held most (g.D.Device.cells c.args.device.now) h in
    let total = planned_total c.args.layout first c.args.redo.now c.args.running.now c.args.checkpoint c.args.held most (g.D.Device.cells c.args.device.now) h in
    let undoes = c.in-Made.ensures.made refl first total begins (omega (arith, fits, enough)) in
    let len = total_is c.args.layout first total c.bring_back.new.held (g.D.Device.cells c.bring_back.new.device) undoes in
    let left = c.in-Made.ensures.spare_left first total begins (omega (arith, fits, enough)) in
    (first, total, undoes, h.work.checkpoint)

pub clear-requires-clause-spare : goal.clear-requires-clause-spare
clear-requires-clause-spare g c =
    let first = c.requires.0 in
    let most = c.requires.1 in
    let h = c.requires.2 in
    let enough = c.requires.3 in
    let fits = plan_fits c.args.layout first c.args.redo.now c.args.running.now c.args.checkpoint c.args.held most (g.D.Device.cells c.args.device.now) h in
    let begins = plan_begins c.args.layout first c.args.redo.now c.args.running.now c.args.checkpoint c.args.held most (g.D.Device.cells c.args.device.now) h in
    let total = planned_total c.args.layout first c.args.redo.now c.args.running.now c.args.checkpoint c.args.held most (g.D.Device.cells c.args.device.now) h in
    let undoes = c.in-Made.ensures.made refl first total begins (omega (arith, fits, enough)) in
    let len = total_is c.args.layout first total c.bring_back.new.held (g.D.Device.cells c.bring_back.new.device) undoes in
    let left = c.in-Made.ensures.spare_left first total begins (omega (arith, fits, enough)) in
    subst (λ n. clear_events c.args.layout c.args.checkpoint n ≤ g.D.Device.spare c.bring_back.new.device) (sym len) (omega (arith, fits, enough, left))

pub clear-requires-clause-few : goal.clear-requires-clause-few
clear-requires-clause-few g c =
    let first = c.requires.0 in
    let most = c.requires.1 in
    let h = c.requires.2 in
    let enough = c.requires.3 in
    let fits = plan_fits c.args.layout first c.args.redo.now c.args.running.now c.args.checkpoint c.args.held most (g.D.Device.cells c.args.device.now) h in
    let begins = plan_begins c.args.layout first c.args.redo.now c.args.running.now c.args.checkpoint c.args.held most (g.D.Device.cells c.args.device.now) h in
    let total = planned_total c.args.layout first c.args.redo.now c.args.running.now c.args.checkpoint c.args.held most (g.D.Device.cells c.args.device.now) h in
    let undoes = c.in-Made.ensures.made refl first total begins (omega (arith, fits, enough)) in
    let len = total_is c.args.layout first total c.bring_back.new.held (g.D.Device.cells c.bring_back.new.device) undoes in
    let left = c.in-Made.ensures.spare_left first total begins (omega (arith, fits, enough)) in
    let small = c.requires.4 in
    omega (arith, fits, small, len)

pub returns-clause-made : goal.returns-clause-made
returns-clause-made g c = λ made first most h enough.
    let fits = plan_fits c.args.layout first c.args.redo.now c.args.running.now c.args.checkpoint c.args.held most (g.D.Device.cells c.args.device.now) h in
    let begins = plan_begins c.args.layout first c.args.redo.now c.args.running.now c.args.checkpoint c.args.held most (g.D.Device.cells c.args.device.now) h in
    let total = planned_total c.args.layout first c.args.redo.now c.args.running.now c.args.checkpoint c.args.held most (g.D.Device.cells c.args.device.now) h in
    let undoes = c.in-Made.ensures.made refl first total begins (omega (arith, fits, enough)) in
    let len = total_is c.args.layout first total c.bring_back.new.held (g.D.Device.cells c.bring_back.new.device) undoes in
    let left = c.in-Made.ensures.spare_left first total begins (omega (arith, fits, enough)) in
    c.clear.ensures.made made first total undoes h.work.checkpoint

pub returns-clause-stopped : goal.returns-clause-stopped
returns-clause-stopped g c = λ stopped first most h enough.
    let fits = plan_fits c.args.layout first c.args.redo.now c.args.running.now c.args.checkpoint c.args.held most (g.D.Device.cells c.args.device.now) h in
    let begins = plan_begins c.args.layout first c.args.redo.now c.args.running.now c.args.checkpoint c.args.held most (g.D.Device.cells c.args.device.now) h in
    let total = planned_total c.args.layout first c.args.redo.now c.args.running.now c.args.checkpoint c.args.held most (g.D.Device.cells c.args.device.now) h in
    let undoes = c.in-Made.ensures.made refl first total begins (omega (arith, fits, enough)) in
    let len = total_is c.args.layout first total c.bring_back.new.held (g.D.Device.cells c.bring_back.new.device) undoes in
    let left = c.in-Made.ensures.spare_left first total begins (omega (arith, fits, enough)) in
    c.clear.ensures.stopped stopped first total undoes h.work.checkpoint

pub returns-clause-counted : goal.returns-clause-counted
returns-clause-counted g c = λ first some h enough.
    let most = some + 1 in
    let fits = plan_fits c.args.layout first c.args.redo.now c.args.running.now c.args.checkpoint c.args.held most (g.D.Device.cells c.args.device.now) h in
    let begins = plan_begins c.args.layout first c.args.redo.now c.args.running.now c.args.checkpoint c.args.held most (g.D.Device.cells c.args.device.now) h in
    let total = planned_total c.args.layout first c.args.redo.now c.args.running.now c.args.checkpoint c.args.held most (g.D.Device.cells c.args.device.now) h in
    let undoes = c.in-Made.ensures.made refl first total begins (omega (arith, fits, enough)) in
    let len = total_is c.args.layout first total c.bring_back.new.held (g.D.Device.cells c.bring_back.new.device) undoes in
    let left = c.in-Made.ensures.spare_left first total begins (omega (arith, fits, enough)) in
    counted_more (begin_events c.args.layout first.log c.args.redo.now c.args.running.now + clear_events c.args.layout c.args.checkpoint total) some c.clear.result (g.D.Device.counts c.args.device.now)
    (g.D.Device.counts c.clear.new.device) (omega (arith, fits))
    (counted_then (begin_events c.args.layout first.log c.args.redo.now c.args.running.now) (clear_events c.args.layout c.args.checkpoint total) c.clear.result (g.D.Device.counts c.args.device.now)
    (g.D.Device.counts c.bring_back.new.device) (g.D.Device.counts c.clear.new.device) (c.in-Made.ensures.counted first total begins (omega (arith, fits, enough)))
    (subst (λ n. HasCounted (clear_events c.args.layout c.args.checkpoint n) c.clear.result (g.D.Device.counts c.bring_back.new.device) (g.D.Device.counts c.clear.new.device)) len c.clear.ensures.counted))

pub returns-clause-spare_left : goal.returns-clause-spare_left
returns-clause-spare_left g c = λ first most h enough.
    let fits = plan_fits c.args.layout first c.args.redo.now c.args.running.now c.args.checkpoint c.args.held most (g.D.Device.cells c.args.device.now) h in
    let begins = plan_begins c.args.layout first c.args.redo.now c.args.running.now c.args.checkpoint c.args.held most (g.D.Device.cells c.args.device.now) h in
    let total = planned_total c.args.layout first c.args.redo.now c.args.running.now c.args.checkpoint c.args.held most (g.D.Device.cells c.args.device.now) h in
    let undoes = c.in-Made.ensures.made refl first total begins (omega (arith, fits, enough)) in
    let len = total_is c.args.layout first total c.bring_back.new.held (g.D.Device.cells c.bring_back.new.device) undoes in
    let left = c.in-Made.ensures.spare_left first total begins (omega (arith, fits, enough)) in
    let behind = subst (λ n. g.D.Device.spare c.bring_back.new.device ≤ g.D.Device.spare c.clear.new.device + clear_events c.args.layout c.args.checkpoint n) len c.clear.ensures.spare_left in
    omega (arith, fits, left, behind)

pub returns-clause-header : goal.returns-clause-header
returns-clause-header g c =
    keeps_then (IsPlainHeaderWord (layout_shape c.args.layout)) (g.D.Device.cells c.args.device.now) (g.D.Device.cells c.bring_back.new.device) (g.D.Device.cells c.clear.new.device)
    c.in-Made.ensures.header c.clear.ensures.header

pub returns-clause-idle : goal.returns-clause-idle
returns-clause-idle g c = λ first most h empty quiet short.
    let running = none_running c.args.layout first c.args.redo.now c.args.running.now c.args.checkpoint c.args.held most (g.D.Device.cells c.args.device.now) h empty in
    let a = c.in-Made.ensures.idle quiet
    (none_redone c.args.layout first c.args.redo.now c.args.running.now c.args.checkpoint c.args.held most (g.D.Device.cells c.args.device.now) h empty) running in
    let gates = c.args.held.gates in
    let none = no_gates c.args.layout first c.args.redo.now c.args.running.now c.args.checkpoint c.args.held most (g.D.Device.cells c.args.device.now) h empty (omega (arith, gates.gates.ok.0))
    (omega (arith, gates.ends.ok.0)) (omega (arith, gates.checkpoints.ok.0)) in
    let same = c.in-Made.ensures.idle_gates running in
    let b = c.clear.ensures.idle
    (none_wanted c.args.layout first c.args.redo.now c.args.running.now c.args.checkpoint c.args.held most (g.D.Device.cells c.args.device.now) h empty)
    (subst HasNoGates (sym same) none) (subst (λ (r : Region). AreShort (layout_shape c.args.layout) r) (sym a.cells) short) in
    record { made = b.made; cells = b.cells ∙ a.cells; same = b.same ∙ a.same }
