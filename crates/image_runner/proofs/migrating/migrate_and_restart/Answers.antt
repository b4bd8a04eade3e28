use Rattle.std.proofs.Common.{sym, subst, Option, Some}
use Rattle.persist_model.specs.Region.{newest_words}
use Rattle.recovery_passes.specs.declared.recovering.RecoverFault.{RecoverFault}
use Rattle.image_runner.specs.declared.runner.Ended.{Ended}
use Rattle.image_runner.specs.Migrations.{IsMigrationOfImage, IsComingTo}
use Rattle.image_runner.proofs.MigrationEnds.{failed_restart, told_end, tells_by, was_restarted}
use Rattle.image_runner.proofs.migrating.migrate_and_restart.Goals as goal

pub returns-in-Some : goal.returns-in-Some
returns-in-Some g c =
    let left = c.migrate_through_cut-fault.result.1 in
    subst (λ (end : Ended). IsMigrationOfImage (Some c.args.stop) c.args.image.now (g.D.Device.cells c.args.region) (g.D.Device.counts c.args.region) (g.D.Device.cells left) (g.D.Device.counts left) end)
    (sym c.end_of_migration.ensures)
    (failed_restart c.args.stop c.args.image.now (g.D.Device.cells c.args.region) (g.D.Device.cells left) (g.D.Device.counts c.args.region) (g.D.Device.counts left) c.in-Some.fault
    (subst (λ (why : Option RecoverFault). IsComingTo c.args.stop c.args.image.now (g.D.Device.cells c.args.region) (g.D.Device.counts c.args.region) (g.D.Device.cells left) (g.D.Device.counts left) why)
    c.in-Some.is c.migrate_through_cut-fault.ensures))

pub returns-in-None : goal.returns-in-None
returns-in-None g c =
    let left = c.migrate_through_cut-fault.result.1 in
    told_end (Some c.args.stop) c.args.image.now (g.D.Device.cells c.args.region) (g.D.Device.cells c.restart.new.self) (g.D.Device.counts c.args.region) (g.D.Device.counts c.restart.new.self)
    c.requires (g.met.D.Device.small c.restart.new.self)
    (was_restarted c.args.image.now c.args.stop (g.D.Device.cells left) (g.met.D.Device.full left) (g.D.Device.counts c.args.region) (g.D.Device.counts left) (g.D.Device.counts c.restart.new.self)
    (g.D.Device.cells c.restart.new.self) c.restart.ensures.cells c.restart.ensures.counts
    (subst (λ (why : Option RecoverFault). IsComingTo c.args.stop c.args.image.now (g.D.Device.cells c.args.region) (g.D.Device.counts c.args.region) (g.D.Device.cells left) (g.D.Device.counts left) why)
    c.in-None.is c.migrate_through_cut-fault.ensures))
    c.write_words-end.result
    (tells_by c.as_slice.result.now c.args.image.now.kinds (g.D.Look.words c.restart.new.self) (newest_words (g.D.Device.cells c.restart.new.self)) c.write_words-end.result
    c.as_slice.ensures (g.met.D.Device.reads c.restart.new.self) c.write_words-end.ensures)
