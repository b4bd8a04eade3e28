use Rattle.std.proofs.Common.{◌+◌, length, arith}
use Rattle.region_layout.specs.Layout.{layout_shape}
use Rattle.log_clearing.specs.Plans.{closing_plan}
use Rattle.recovery_passes.specs.LoserPass.{gates_len}
use Rattle.recovery_passes.proofs.Counting.{counted_more}
use Rattle.recovery_passes.proofs.Closed.{plan_few, ready_lists, closed_log, closed_already}
use Rattle.recovery_passes.proofs.clearing.close_gates.Goals as goal

pub returns-then-has_no_gates-clause-made : goal.returns-then-has_no_gates-clause-made
returns-then-has_no_gates-clause-made g c = λ made first h. closed_already c.args.layout first c.args.gates (g.D.Device.cells c.args.device.now) (c.has_no_gates.ensures.some c.if-has_no_gates.true) h

pub close_everything-requires-clause-spare : goal.close_everything-requires-clause-spare
close_everything-requires-clause-spare g c =
    let list = c.into_clear_list-list.result in
    let is = c.into_clear_list-list.ensures in
    let gates = c.args.gates in
    let few = plan_few c.args.layout gates list.gates list.ends list.checkpoints is.0 is.1 is.2 (omega (arith, gates.gates.ok.0)) (omega (arith, gates.ends.ok.0)) (omega (arith, gates.checkpoints.ok.0)) in
    let enough = c.requires.spare in
    omega (arith, few, enough)

pub close_everything-requires-clause-few : goal.close_everything-requires-clause-few
close_everything-requires-clause-few g c =
    let list = c.into_clear_list-list.result in
    let is = c.into_clear_list-list.ensures in
    let gates = c.args.gates in
    let few = plan_few c.args.layout gates list.gates list.ends list.checkpoints is.0 is.1 is.2 (omega (arith, gates.gates.ok.0)) (omega (arith, gates.ends.ok.0)) (omega (arith, gates.checkpoints.ok.0)) in
    let small = c.requires.few in
    omega (arith, few, small)

pub returns-clause-made : goal.returns-clause-made
returns-clause-made g c = λ made first h.
    let list = c.into_clear_list-list.result in
    let is = c.into_clear_list-list.ensures in
    let old = g.D.Device.cells c.args.device.now in
    let end = c.close_everything.ensures.made made (layout_shape c.args.layout) first h.state h.settled h.sound (ready_lists c.args.layout c.args.gates list.gates list.ends list.checkpoints is.0 is.1 is.2 first old h) in
    closed_log c.args.layout c.args.gates list.gates list.ends list.checkpoints is.0 is.1 is.2 first old (g.D.Device.cells c.close_everything.new.device) h end.0
    (let few = c.args.layout.partitions_within in omega (arith, few)) end.1 c.close_everything.ensures.low

pub returns-clause-stopped : goal.returns-clause-stopped
returns-clause-stopped g c = λ stopped first h.
    let list = c.into_clear_list-list.result in
    let is = c.into_clear_list-list.ensures in
    c.close_everything.ensures.stopped stopped (layout_shape c.args.layout) first h.state h.settled h.sound
    (ready_lists c.args.layout c.args.gates list.gates list.ends list.checkpoints is.0 is.1 is.2 first (g.D.Device.cells c.args.device.now) h)

pub returns-clause-counted : goal.returns-clause-counted
returns-clause-counted g c =
    let list = c.into_clear_list-list.result in
    let is = c.into_clear_list-list.ensures in
    let gates = c.args.gates in
    let few = plan_few c.args.layout gates list.gates list.ends list.checkpoints is.0 is.1 is.2 (omega (arith, gates.gates.ok.0)) (omega (arith, gates.ends.ok.0)) (omega (arith, gates.checkpoints.ok.0)) in
    counted_more (length (closing_plan list.gates list.ends list.checkpoints)) (gates_len gates + 3) c.close_everything.result (g.D.Device.counts c.args.device.now) (g.D.Device.counts c.close_everything.new.device)
    few c.close_everything.ensures.counted

pub returns-clause-spare_left : goal.returns-clause-spare_left
returns-clause-spare_left g c =
    let list = c.into_clear_list-list.result in
    let is = c.into_clear_list-list.ensures in
    let gates = c.args.gates in
    let few = plan_few c.args.layout gates list.gates list.ends list.checkpoints is.0 is.1 is.2 (omega (arith, gates.gates.ok.0)) (omega (arith, gates.ends.ok.0)) (omega (arith, gates.checkpoints.ok.0)) in
    let left = c.close_everything.ensures.spare_left in
    omega (arith, few, left)

pub returns-clause-header : goal.returns-clause-header
returns-clause-header g c = λ a v is one. c.close_everything.ensures.low a v is.below one
