use Rattle.std.proofs.Common.{sym, subst, Ok, Err}
use Rattle.persist_model.specs.Region.{AreSettled}
use Rattle.region_layout.specs.Layout.{layout_shape}
use Rattle.recovery_passes.specs.Reading.{IsLogRead}
use Rattle.recovery_passes.specs.declared.recovering.RecoverFault.{RecoverFault}
use Rattle.migration.specs.Fits.{Fit}
use Rattle.image_runner.specs.Ends.{words_of}
use Rattle.image_runner.specs.Migrations.{IsComing}
use Rattle.image_runner.proofs.Kept.{sound_loaded, shape_loaded, of_loaded, loaded_settled}
use Rattle.image_runner.proofs.MigrationEnds.{failed_coming, was_migrated, owed_by}
use Rattle.image_runner.proofs.migrating.migrate_admitted.Goals as goal

pub migrate_read-requires-clause-settled : goal.migrate_read-requires-clause-settled
migrate_read-requires-clause-settled g c = subst AreSettled (sym c.requires.loaded) (loaded_settled c.args.image.now.words)

pub migrate_read-requires-clause-sound : goal.migrate_read-requires-clause-sound
migrate_read-requires-clause-sound g c = sound_loaded c.args.image.now.words (g.D.Device.cells c.args.region.now) c.requires.loaded c.requires.admitted.sound

pub migrate_read-requires-clause-shape : goal.migrate_read-requires-clause-shape
migrate_read-requires-clause-shape g c = shape_loaded c.args.image.now.words (g.D.Device.cells c.args.region.now) (layout_shape c.args.read.now.layout) c.requires.loaded c.requires.shape

pub migrate_read-requires-clause-records : goal.migrate_read-requires-clause-records
migrate_read-requires-clause-records g c =
    of_loaded (λ w. IsLogRead c.args.read.now.layout c.as_slice.result.now w) c.args.image.now.words (g.D.Device.cells c.args.region.now) c.requires.loaded
    (subst (λ xs. IsLogRead c.args.read.now.layout xs (words_of c.args.image.now)) (sym c.as_slice.ensures) c.requires.records)

pub migrate_read-requires-clause-fit : goal.migrate_read-requires-clause-fit
migrate_read-requires-clause-fit g c =
    of_loaded (λ w. Fit w c.as_slice-2.result.now) c.args.image.now.words (g.D.Device.cells c.args.region.now) c.requires.loaded
    (subst (λ xs. Fit (words_of c.args.image.now) xs) (sym c.as_slice-2.ensures) c.requires.admitted.fit)

pub returns-in-Err : goal.returns-in-Err
returns-in-Err g c = λ before counts since.
    subst (λ (why : RecoverFault). IsComing c.args.image.now before counts (g.D.Device.cells c.migrate_read.new.device) (g.D.Device.counts c.migrate_read.new.device) (Err why)) (sym c.from.ensures)
    (failed_coming c.args.image.now (g.D.Device.cells c.args.region.now) (g.D.Device.cells c.migrate_read.new.device) counts (g.D.Device.counts c.args.region.now) (g.D.Device.counts c.migrate_read.new.device)
    c.requires.loaded since c.requires.admitted before c.in-Err.fault
    (owed_by c.as_slice-2.result.now c.args.image.now.kinds (g.D.Device.cells c.args.region.now) (g.D.Device.cells c.migrate_read.new.device) (g.D.Device.counts c.args.region.now) (g.D.Device.counts c.migrate_read.new.device)
    (Err c.in-Err.fault) c.as_slice-2.ensures c.in-Err.ensures.owed))

pub returns-in-Ok : goal.returns-in-Ok
returns-in-Ok g c = λ before counts since.
    was_migrated c.args.image.now (g.D.Device.cells c.args.region.now) (g.D.Device.cells c.migrate_read.new.device) counts (g.D.Device.counts c.args.region.now) (g.D.Device.counts c.migrate_read.new.device)
    c.requires.loaded since c.requires.admitted c.in-Ok.ensures.size c.in-Ok.events
    (owed_by c.as_slice-2.result.now c.args.image.now.kinds (g.D.Device.cells c.args.region.now) (g.D.Device.cells c.migrate_read.new.device) (g.D.Device.counts c.args.region.now) (g.D.Device.counts c.migrate_read.new.device)
    (Ok c.in-Ok.events) c.as_slice-2.ensures c.in-Ok.ensures.owed)
