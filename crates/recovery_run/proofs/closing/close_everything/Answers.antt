use Rattle.std.proofs.Common.{ℕ, [], sym, subst, arith}
use Rattle.persist_model.specs.Region.{Region}
use Rattle.persist_model.specs.Progress.{start}
use Rattle.log_clearing.specs.Plans.{closing_plan}
use Rattle.log_laws.specs.Parts.{EachKeeps}
use Rattle.recovery_run.specs.Reached.{HasSettled}
use Rattle.recovery_run.proofs.Appended.{stores_are_few}
use Rattle.recovery_run.proofs.Composing.{parts_keep}
use Rattle.recovery_run.proofs.Within.{all_within}
use Rattle.recovery_run.proofs.ClosingAll.{plan_low, plan_within, close_all_leads, close_all_done}
use Rattle.recovery_run.proofs.closing.close_everything.Goals as goal

pub run-requires-clause-within : goal.run-requires-clause-within
run-requires-clause-within g c =
    let list = c.args.list.now in
    let can = c.requires.can in
    all_within (g.D.Device.cells c.args.device.now).size (closing_plan list.gates list.ends list.checkpoints)
    (plan_within can.0 can.1 can.2 (g.D.Device.cells c.args.device.now) list.gates list.ends list.checkpoints can.3 can.4 can.5)

pub run-requires-clause-spare : goal.run-requires-clause-spare
run-requires-clause-spare g c =
    let few = stores_are_few (closing_plan c.args.list.now.gates c.args.list.now.ends c.args.list.now.checkpoints) in
    let enough = c.requires.spare in
    omega (arith, few, enough)

pub returns-clause-spare_left : goal.returns-clause-spare_left
returns-clause-spare_left g c =
    let few = stores_are_few (closing_plan c.args.list.now.gates c.args.list.now.ends c.args.list.now.checkpoints) in
    let left = c.run.ensures.spare_left in
    omega (arith, few, left)

pub returns-clause-low : goal.returns-clause-low
returns-clause-low g c = λ a v lt one.
    let list = c.args.list.now in
    let can = c.requires.can in
    c.run.ensures.aside a v (plan_low can.0 can.1 can.2 (g.D.Device.cells c.args.device.now) list.gates list.ends list.checkpoints can.3 can.4 can.5 a lt) one

pub returns-clause-made : goal.returns-clause-made
returns-clause-made g c = λ made shape first y h sound can.
    let list = c.args.list.now in
    subst (λ (region : Region). (room : ℕ → ℕ) × HasSettled shape first (record { log = []; words = y.words; room = room }) region) (sym (c.run.ensures.made made))
    (close_all_done shape first y (g.D.Device.cells c.args.device.now) list.gates list.ends list.checkpoints h sound can)

pub returns-clause-stopped : goal.returns-clause-stopped
returns-clause-stopped g c = λ stopped shape first y h sound can.
    let list = c.args.list.now in
    let at = c.run.ensures.stopped stopped in
    let old = g.D.Device.cells c.args.device.now in
    subst (λ (region : Region). EachKeeps shape first region) (sym at.1)
    (parts_keep shape first (start h.durable) h.durable y old (closing_plan list.gates list.ends list.checkpoints) at.0 sound h.come
    (close_all_leads shape first y old list.gates list.ends list.checkpoints h sound can))
