use Rattle.std.proofs.Common.{sym, subst, None}
use Rattle.persist_model.specs.Region.{newest_words}
use Rattle.image_runner.specs.declared.runner.Ended.{Ended}
use Rattle.image_runner.specs.Migrations.{IsMigrationOfImage}
use Rattle.image_runner.proofs.MigrationEnds.{failed_whole, told_end, tells_by}
use Rattle.image_runner.proofs.migrating.migrate_whole.Goals as goal

pub returns-in-Err : goal.returns-in-Err
returns-in-Err g c =
    subst (λ (end : Ended). IsMigrationOfImage None c.args.image.now (g.D.Device.cells c.args.region) (g.D.Device.counts c.args.region) (g.D.Device.cells c.migrate_image.new.region) (g.D.Device.counts c.migrate_image.new.region) end)
    (sym c.end_of_migration.ensures)
    (failed_whole c.args.image.now (g.D.Device.cells c.args.region) (g.D.Device.cells c.migrate_image.new.region) (g.D.Device.counts c.args.region) (g.D.Device.counts c.migrate_image.new.region) c.in-Err.fault c.in-Err.ensures)

pub returns-in-Ok : goal.returns-in-Ok
returns-in-Ok g c =
    told_end None c.args.image.now (g.D.Device.cells c.args.region) (g.D.Device.cells c.migrate_image.new.region) (g.D.Device.counts c.args.region) (g.D.Device.counts c.migrate_image.new.region)
    c.requires (g.met.D.Device.small c.migrate_image.new.region) c.in-Ok.ensures c.write_words-end.result
    (tells_by c.as_slice.result.now c.args.image.now.kinds (g.D.Look.words c.migrate_image.new.region) (newest_words (g.D.Device.cells c.migrate_image.new.region)) c.write_words-end.result
    c.as_slice.ensures (g.met.D.Device.reads c.migrate_image.new.region) c.write_words-end.ensures)
