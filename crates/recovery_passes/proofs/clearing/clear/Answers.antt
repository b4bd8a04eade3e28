use Rattle.std.proofs.Common.{◌+◌, ◌*◌, if◌then◌else◌, refl, sym, ◌∙◌, subst, arith}
use Rattle.lane_traits.specs.declared.device.Done.TheVariants.{Made, Stopped}
use Rattle.persist_model.specs.Region.{Region}
use Rattle.region_layout.specs.Layout.{layout_shape}
use Rattle.recovery_run.specs.Edges.{IsPlainHeaderWord}
use Rattle.recovery_passes.specs.LoserPass.{gates_len, HasNoGates, clear_events}
use Rattle.recovery_passes.specs.Stages.{AreShort}
use Rattle.recovery_passes.proofs.ClearBounds.{close_fits, clear_fits, mark_events}
use Rattle.recovery_passes.proofs.Counting.{counted_more, counted_then, keeps_then}
use Rattle.recovery_passes.proofs.clearing.clear.Goals as goal

pub returns-in-Stopped-clause-spare_left : goal.returns-in-Stopped-clause-spare_left
returns-in-Stopped-clause-spare_left g c =
    let left = c.in-Stopped.ensures.spare_left in
    let fits = mark_events c.args.layout c.args.wanted (gates_len c.args.held.gates) in
    omega (arith, left, fits)

pub close_gates-requires-clause-ready : goal.close_gates-requires-clause-ready
close_gates-requires-clause-ready g c = let r = c.requires.can in (r.0, c.in-Made.ensures.made refl r.0 r.1 r.2 r.3)

pub returns-in-Stopped-close_gates-clause-stopped : goal.returns-in-Stopped-close_gates-clause-stopped
returns-in-Stopped-close_gates-clause-stopped g c = λ stopped first total h wanted. c.in-Stopped-close_gates.ensures.stopped refl first (c.in-Made.ensures.made refl first total h wanted)

pub returns-in-Stopped-close_gates-clause-counted : goal.returns-in-Stopped-close_gates-clause-counted
returns-in-Stopped-close_gates-clause-counted g c =
    let mark = if c.args.wanted then c.args.layout.cells + 21 else 0 in
    let len = c.in-Made.ensures.count refl in
    counted_more (mark + (gates_len c.checkpoint_if.new.held.gates + 3)) (clear_events c.args.layout c.args.wanted (gates_len c.args.held.gates)) Stopped (g.D.Device.counts c.args.device.now) (g.D.Device.counts c.close_gates.new.device)
    (close_fits c.args.layout c.args.wanted (gates_len c.args.held.gates) (gates_len c.checkpoint_if.new.held.gates) len)
    (counted_then mark (gates_len c.checkpoint_if.new.held.gates + 3) Stopped (g.D.Device.counts c.args.device.now) (g.D.Device.counts c.checkpoint_if.new.device) (g.D.Device.counts c.close_gates.new.device)
    c.in-Made.ensures.counted c.in-Stopped-close_gates.ensures.counted)

pub returns-in-Stopped-close_gates-clause-spare_left : goal.returns-in-Stopped-close_gates-clause-spare_left
returns-in-Stopped-close_gates-clause-spare_left g c =
    let left = c.in-Made.ensures.spare_left in
    let behind = c.in-Stopped-close_gates.ensures.spare_left in
    let fits = close_fits c.args.layout c.args.wanted (gates_len c.args.held.gates) (gates_len c.checkpoint_if.new.held.gates) (c.in-Made.ensures.count refl) in
    omega (arith, left, behind, fits)

pub returns-in-Stopped-close_gates-clause-header : goal.returns-in-Stopped-close_gates-clause-header
returns-in-Stopped-close_gates-clause-header g c =
    keeps_then (IsPlainHeaderWord (layout_shape c.args.layout)) (g.D.Device.cells c.args.device.now) (g.D.Device.cells c.checkpoint_if.new.device) (g.D.Device.cells c.close_gates.new.device)
    c.in-Made.ensures.header c.in-Stopped-close_gates.ensures.header

pub drop_all-requires-clause-settled : goal.drop_all-requires-clause-settled
drop_all-requires-clause-settled g c =
    let r = c.requires.can in
    let k = c.in-Made-close_gates.ensures.made refl r.0 (c.in-Made.ensures.made refl r.0 r.1 r.2 r.3) in
    (r.0, k.state, k.settled, k.empty)

pub drop_all-requires-clause-quiet : goal.drop_all-requires-clause-quiet
drop_all-requires-clause-quiet g c =
    let r = c.requires.can in
    (c.in-Made-close_gates.ensures.made refl r.0 (c.in-Made.ensures.made refl r.0 r.1 r.2 r.3)).quiet

pub returns-clause-made : goal.returns-clause-made
returns-clause-made g c = λ made first total h wanted.
    let k = c.in-Made-close_gates.ensures.made refl first (c.in-Made.ensures.made refl first total h wanted) in
    let d = c.drop_all.ensures.made made first k.state k.settled k.empty in
    record { state = d.state; settled = d.settled; empty = d.empty; quiet = c.drop_all.ensures.quiet made; short = c.drop_all.ensures.few made }

pub returns-clause-stopped : goal.returns-clause-stopped
returns-clause-stopped g c = λ stopped first total h wanted.
    let k = c.in-Made-close_gates.ensures.made refl first (c.in-Made.ensures.made refl first total h wanted) in
    c.drop_all.ensures.stopped stopped first k.state h.sound k.settled k.empty

pub returns-clause-counted : goal.returns-clause-counted
returns-clause-counted g c =
    let mark = if c.args.wanted then c.args.layout.cells + 21 else 0 in
    let len = c.in-Made.ensures.count refl in
    let first_two = counted_then mark (gates_len c.checkpoint_if.new.held.gates + 3) Made (g.D.Device.counts c.args.device.now) (g.D.Device.counts c.checkpoint_if.new.device) (g.D.Device.counts c.close_gates.new.device)
    c.in-Made.ensures.counted c.in-Made-close_gates.ensures.counted in
    counted_more (mark + (gates_len c.checkpoint_if.new.held.gates + 3) + 7 * c.args.layout.buckets) (clear_events c.args.layout c.args.wanted (gates_len c.args.held.gates)) c.drop_all.result (g.D.Device.counts c.args.device.now)
    (g.D.Device.counts c.drop_all.new.device) (clear_fits c.args.layout c.args.wanted (gates_len c.args.held.gates) (gates_len c.checkpoint_if.new.held.gates) len)
    (counted_then (mark + (gates_len c.checkpoint_if.new.held.gates + 3)) (7 * c.args.layout.buckets) c.drop_all.result (g.D.Device.counts c.args.device.now) (g.D.Device.counts c.close_gates.new.device)
    (g.D.Device.counts c.drop_all.new.device) first_two c.drop_all.ensures.counted)

pub returns-clause-spare_left : goal.returns-clause-spare_left
returns-clause-spare_left g c =
    let left = c.in-Made.ensures.spare_left in
    let behind = c.in-Made-close_gates.ensures.spare_left in
    let last = c.drop_all.ensures.spare_left in
    let fits = clear_fits c.args.layout c.args.wanted (gates_len c.args.held.gates) (gates_len c.checkpoint_if.new.held.gates) (c.in-Made.ensures.count refl) in
    omega (arith, left, behind, last, fits)

pub returns-clause-header : goal.returns-clause-header
returns-clause-header g c =
    keeps_then (IsPlainHeaderWord (layout_shape c.args.layout)) (g.D.Device.cells c.args.device.now) (g.D.Device.cells c.close_gates.new.device) (g.D.Device.cells c.drop_all.new.device)
    (keeps_then (IsPlainHeaderWord (layout_shape c.args.layout)) (g.D.Device.cells c.args.device.now) (g.D.Device.cells c.checkpoint_if.new.device) (g.D.Device.cells c.close_gates.new.device)
    c.in-Made.ensures.header c.in-Made-close_gates.ensures.header) c.drop_all.ensures.header

pub returns-clause-idle : goal.returns-clause-idle
returns-clause-idle g c = λ plain none short.
    let a = c.in-Made.ensures.idle plain in
    let gates = c.in-Made.ensures.idle_gates plain in
    let b = c.in-Made-close_gates.ensures.idle (subst HasNoGates (sym gates) none) in
    let cells = b.cells ∙ a.cells in
    let d = c.drop_all.ensures.idle (subst (λ (r : Region). AreShort (layout_shape c.args.layout) r) (sym cells) short) in
    record { made = d.made; cells = d.cells ∙ cells; same = d.same ∙ b.same ∙ a.same }
