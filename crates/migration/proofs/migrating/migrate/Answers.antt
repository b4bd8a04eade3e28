use Rattle.std.proofs.Common.{sym, subst}
use Rattle.std.specs.Prelude.{slice_index}
use Rattle.std.proofs.lemmas.Result.{err_from_is_err_and}
use Rattle.region_layout.specs.Layout.{layout_shape}
use Rattle.recovery_passes.specs.Reading.{IsLogRead}
use Rattle.recovery_passes.proofs.Results.{sound_read, shape_read, records_read}
use Rattle.migration.proofs.Refusing.{check_owes, kinds_owe, unfinished_owes, fit_read}
use Rattle.migration.proofs.migrating.migrate.Goals as goal

pub returns-in_err-read-clause-owed : goal.returns-in_err-read-clause-owed
returns-in_err-read-clause-owed g c =
    let p = err_from_is_err_and c.from_residual.result c.from_residual.ensures.1 in
    rw (p.1, p.2)
    (check_owes c.args.kinds.now (g.D.Look.words c.args.device.now) (g.D.Device.cells c.args.device.now) (g.D.Device.counts c.args.device.now) (g.met.D.Device.reads c.args.device.now) c.in_err-read.field-0.0 c.in_err-read.ensures.unsound)

pub returns-in_err-events-clause-owed : goal.returns-in_err-events-clause-owed
returns-in_err-events-clause-owed g c =
    let p = err_from_is_err_and c.from_residual-in_err-events.result c.from_residual-in_err-events.ensures.1 in
    rw (p.1, p.2)
    (unfinished_owes c.args.kinds.now (g.D.Device.cells c.args.device.now) (g.D.Device.cells c.migrate_read.new.device) (g.D.Device.counts c.args.device.now) (g.D.Device.counts c.migrate_read.new.device) c.in_err-events.field-0.0 c.in_err-events.ensures.owed)

pub returns-in-Some-clause-owed : goal.returns-in-Some-clause-owed
returns-in-Some-clause-owed g c =
    kinds_owe c.args.kinds.now (g.D.Look.words c.args.device.now) (g.D.Device.cells c.args.device.now) (g.D.Device.counts c.args.device.now) c.in-Some.found (g.met.D.Device.reads c.args.device.now)
    c.in_ok-read.ensures.sound c.in-Some.ensures.fault

pub migrate_read-requires-clause-sound : goal.migrate_read-requires-clause-sound
migrate_read-requires-clause-sound g c =
    sound_read (g.D.Look.words c.args.device.now) (g.D.Device.cells c.args.device.now) (g.met.D.Device.reads c.args.device.now) c.in_ok-read.ensures.sound

pub migrate_read-requires-clause-shape : goal.migrate_read-requires-clause-shape
migrate_read-requires-clause-shape g c =
    shape_read (layout_shape c.in_ok-read.read.layout) (g.D.Look.words c.args.device.now) (g.D.Device.cells c.args.device.now) (g.met.D.Device.reads c.args.device.now) c.in_ok-read.ensures.shape

pub migrate_read-requires-clause-records : goal.migrate_read-requires-clause-records
migrate_read-requires-clause-records g c =
    records_read c.in_ok-read.read.layout c.as_slice.result.now (g.D.Look.words c.args.device.now) (g.D.Device.cells c.args.device.now) (g.met.D.Device.reads c.args.device.now)
    (subst (λ xs. IsLogRead c.in_ok-read.read.layout xs (slice_index (g.D.Look.words c.args.device.now))) (sym c.as_slice.ensures) c.in_ok-read.ensures.records)

pub migrate_read-requires-clause-fit : goal.migrate_read-requires-clause-fit
migrate_read-requires-clause-fit g c =
    fit_read c.args.kinds.now (g.D.Look.words c.args.device.now) (g.D.Device.cells c.args.device.now) (g.met.D.Device.reads c.args.device.now) c.in-None.ensures.fit
