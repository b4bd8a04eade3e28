use Rattle.std.proofs.Common.{sym, subst, arith}
use Rattle.persist_model.specs.Region.{Region}
use Rattle.log_laws.specs.Recovery.{grown}
use Rattle.log_laws.specs.Parts.{EachKeeps}
use Rattle.recovery_run.specs.Reached.{HasSettled}
use Rattle.recovery_run.proofs.Composing.{parts_keep}
use Rattle.persist_model.specs.Progress.{start}
use Rattle.recovery_run.proofs.Reaching.{reached_keeps}
use Rattle.recovery_run.proofs.Appended.{stores_are_few, reached_append_leads, reached_append_done, settled_leads, settled_append_settles}
use Rattle.recovery_run.proofs.appending.append.Goals as goal

pub run-requires-clause-spare : goal.run-requires-clause-spare
run-requires-clause-spare g c =
    let few = stores_are_few (g.P.Plan.events c.args.plan.now) in
    let enough = c.requires.spare in
    omega (arith, few, enough)

pub returns-clause-spare_left : goal.returns-clause-spare_left
returns-clause-spare_left g c =
    let few = stores_are_few (g.P.Plan.events c.args.plan.now) in
    let left = c.run.ensures.spare_left in
    omega (arith, few, left)

pub returns-clause-made : goal.returns-clause-made
returns-clause-made g c = λ made shape first y r room h append off may.
    subst (λ (region : Region). HasSettled shape first (grown y r room) region) (sym (c.run.ensures.made made))
    (reached_append_done shape first y (g.D.Device.cells c.args.device.now) r room (g.P.Plan.events c.args.plan.now) h append may off)

pub returns-clause-stopped : goal.returns-clause-stopped
returns-clause-stopped g c = λ stopped shape first y r room sound h append may.
    let at = c.run.ensures.stopped stopped in
    let plan = g.P.Plan.events c.args.plan.now in
    let old = g.D.Device.cells c.args.device.now in
    subst (λ (region : Region). EachKeeps shape first region) (sym at.1)
    (reached_keeps shape first y old plan at.0 sound h (reached_append_leads shape first y old r room plan h append may))

pub returns-clause-settled_made : goal.returns-clause-settled_made
returns-clause-settled_made g c = λ made shape first y r room h append off step.
    subst (λ (region : Region). HasSettled shape first (grown y r room) region) (sym (c.run.ensures.made made))
    (settled_append_settles shape first y (g.D.Device.cells c.args.device.now) r room (g.P.Plan.events c.args.plan.now) h append step off)

pub returns-clause-settled_stopped : goal.returns-clause-settled_stopped
returns-clause-settled_stopped g c = λ stopped shape first y r room sound h append step.
    let at = c.run.ensures.stopped stopped in
    let plan = g.P.Plan.events c.args.plan.now in
    let old = g.D.Device.cells c.args.device.now in
    subst (λ (region : Region). EachKeeps shape first region) (sym at.1)
    (parts_keep shape first (start h.durable) h.durable y old plan at.0 sound h.come (settled_leads shape first y old r room plan h append step))
