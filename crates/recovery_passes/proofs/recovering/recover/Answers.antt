use Rattle.std.proofs.Common.{sym, subst}
use Rattle.std.specs.Prelude.{slice_index}
use Rattle.std.proofs.lemmas.Result.{err_from_is_err_and}
use Rattle.region_layout.specs.Layout.{layout_shape}
use Rattle.recovery_passes.specs.Reading.{IsLogRead}
use Rattle.recovery_passes.proofs.Results.{sound_read, shape_read, records_read, refusal_owes, unfinished_owes}
use Rattle.recovery_passes.proofs.recovering.recover.Goals as goal

pub recover_read-requires-clause-sound : goal.recover_read-requires-clause-sound
recover_read-requires-clause-sound g c =
    sound_read (g.D.Look.words c.args.device.now) (g.D.Device.cells c.args.device.now) (g.met.D.Device.reads c.args.device.now) c.in_ok-read.ensures.sound

pub recover_read-requires-clause-shape : goal.recover_read-requires-clause-shape
recover_read-requires-clause-shape g c =
    shape_read (layout_shape c.in_ok-read.read.layout) (g.D.Look.words c.args.device.now) (g.D.Device.cells c.args.device.now) (g.met.D.Device.reads c.args.device.now) c.in_ok-read.ensures.shape

pub recover_read-requires-clause-records : goal.recover_read-requires-clause-records
recover_read-requires-clause-records g c =
    records_read c.in_ok-read.read.layout c.as_slice.result.now (g.D.Look.words c.args.device.now) (g.D.Device.cells c.args.device.now) (g.met.D.Device.reads c.args.device.now)
    (subst (λ xs. IsLogRead c.in_ok-read.read.layout xs (slice_index (g.D.Look.words c.args.device.now))) (sym c.as_slice.ensures) c.in_ok-read.ensures.records)

pub returns-in_err-read-clause-owed : goal.returns-in_err-read-clause-owed
returns-in_err-read-clause-owed g c =
    let p = err_from_is_err_and c.from_residual.result c.from_residual.ensures.1 in
    rw (p.1, p.2)
    (refusal_owes (g.D.Look.words c.args.device.now) (g.D.Device.cells c.args.device.now) (g.D.Device.counts c.args.device.now) (g.met.D.Device.reads c.args.device.now) c.in_err-read.field-0.0 c.in_err-read.ensures.unsound)

pub returns-in_err-done-clause-owed : goal.returns-in_err-done-clause-owed
returns-in_err-done-clause-owed g c =
    let p = err_from_is_err_and c.from_residual-in_err-done.result c.from_residual-in_err-done.ensures.1 in
    rw (p.1, p.2)
    (unfinished_owes (g.D.Device.cells c.args.device.now) (g.D.Device.cells c.recover_read.new.device) (g.D.Device.counts c.args.device.now) (g.D.Device.counts c.recover_read.new.device) c.in_err-done.field-0.0 c.in_err-done.ensures.owed)
