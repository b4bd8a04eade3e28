use Rattle.std.proofs.Common.{refl, ap, ◌∙◌, take, arith}
use Rattle.persist_model.specs.Region.{Region}
use Rattle.log_laws.specs.Recovering.{RECOVERY_LANE}
use Rattle.recovery_run.specs.Reached.{newest_at}
use Rattle.recovery_run.proofs.Composing.{size_plan}
use Rattle.migration.specs.Plan.{migration_plan}
use Rattle.migration.proofs.Headers.{format_first, format_second}
use Rattle.migration.proofs.Ending.{unfinished_owes, already_second, migrated_first, plan_halted, all_events}
use Rattle.migration.proofs.migrating.migrate_read.Goals as goal

pub returns-in-Err-clause-owed : goal.returns-in-Err-clause-owed
returns-in-Err-clause-owed g c =
    unfinished_owes c.args.kinds.now (g.D.Device.cells c.args.device.now) (g.D.Device.cells c.recover_reserving.new.device) (g.D.Device.counts c.args.device.now) (g.D.Device.counts c.recover_reserving.new.device)
    c.requires.settled c.requires.sound c.requires.fit c.in-Err.ensures.header c.in-Err.fault c.in-Err.ensures.owed

pub returns-then-layout-eq2-clause-owed : goal.returns-then-layout-eq2-clause-owed
returns-then-layout-eq2-clause-owed g c =
    already_second c.args.kinds.now (g.D.Device.cells c.args.device.now) (g.D.Device.counts c.args.device.now) c.requires.settled c.requires.sound c.requires.fit
    (g.D.Device.cells c.recover_reserving.new.device) (g.D.Device.counts c.recover_reserving.new.device) c.in-Ok.ensures.header c.in-Ok.done c.in-Ok.ensures.owed
    (format_second c.args.layout (newest_at (g.D.Device.cells c.args.device.now)) c.requires.shape c.if-layout-eq2.true)

pub overflow_add-result : goal.overflow_add-result
overflow_add-result g c =
    let all = all_events (g.D.Device.counts c.args.device.now) (g.D.Device.counts c.recover_reserving.new.device) (g.D.Device.counts c.make_events.new.device) c.in-Ok.done.events
    c.in-Ok.ensures.owed.events (c.in-Made.ensures.counted refl) in
    let within = g.met.D.Device.within c.make_events.new.device in
    let fits = g.met.D.Device.budget_fits c.make_events.new.device in
    record { fits = omega (arith, all, within, fits) }

pub returns-in-Stopped-clause-owed : goal.returns-in-Stopped-clause-owed
returns-in-Stopped-clause-owed g c =
    plan_halted c.args.kinds.now (g.D.Device.cells c.args.device.now) (g.D.Device.counts c.args.device.now) c.requires.settled c.requires.sound c.requires.fit
    (g.D.Device.cells c.recover_reserving.new.device) (g.D.Device.counts c.recover_reserving.new.device) c.in-Ok.ensures.header c.in-Ok.done c.in-Ok.ensures.owed
    (format_first c.args.layout (newest_at (g.D.Device.cells c.args.device.now)) c.requires.shape c.requires.sound.shape.magic c.if-layout-eq2.false)
    (g.D.Device.cells c.make_events.new.device) (g.D.Device.counts c.make_events.new.device) (c.in-Stopped.ensures.stopped refl)

pub returns-in-Stopped-clause-size : goal.returns-in-Stopped-clause-size
returns-in-Stopped-clause-size g c =
    let stop = c.in-Stopped.ensures.stopped refl in
    ap (λ (r : Region). r.size) stop.cells ∙ size_plan RECOVERY_LANE (g.D.Device.cells c.recover_reserving.new.device) (take stop.made (migration_plan c.args.kinds.now)) ∙ c.in-Ok.ensures.header.size

pub returns-in-Made-clause-owed : goal.returns-in-Made-clause-owed
returns-in-Made-clause-owed g c =
    migrated_first c.args.kinds.now (g.D.Device.cells c.args.device.now) (g.D.Device.counts c.args.device.now) c.requires.settled c.requires.sound c.requires.fit
    (g.D.Device.cells c.recover_reserving.new.device) (g.D.Device.counts c.recover_reserving.new.device) c.in-Ok.ensures.header c.in-Ok.done c.in-Ok.ensures.owed
    (format_first c.args.layout (newest_at (g.D.Device.cells c.args.device.now)) c.requires.shape c.requires.sound.shape.magic c.if-layout-eq2.false)
    (g.D.Device.cells c.make_events.new.device) (g.D.Device.counts c.make_events.new.device) (c.in-Made.ensures.made refl) (c.in-Made.ensures.counted refl)

pub returns-in-Made-clause-size : goal.returns-in-Made-clause-size
returns-in-Made-clause-size g c =
    ap (λ (r : Region). r.size) (c.in-Made.ensures.made refl) ∙ size_plan RECOVERY_LANE (g.D.Device.cells c.recover_reserving.new.device) (migration_plan c.args.kinds.now) ∙ c.in-Ok.ensures.header.size
