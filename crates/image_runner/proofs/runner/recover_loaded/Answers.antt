use Rattle.std.proofs.Common.{◌∙◌, sym, ap, subst, length}
use Rattle.persist_model.specs.Region.{Region, newest_words}
use Rattle.persist_model.specs.Shape.{shape_of, words_of_shape}
use Rattle.persist_model.proofs.Images.{length-newest_words}
use Rattle.region_layout.specs.Layout.{layout_shape}
use Rattle.recovery_passes.specs.Reading.{IsLogRead}
use Rattle.image_runner.specs.declared.runner.Ended.{Ended}
use Rattle.image_runner.specs.Ends.{words_of, IsEndOfImage}
use Rattle.image_runner.proofs.Kept.{sound_loaded, shape_loaded, of_loaded}
use Rattle.image_runner.proofs.Recovering.{failed_end, told_end, tells_by}
use Rattle.image_runner.proofs.runner.recover_loaded.Goals as goal

pub recover_read-requires-clause-sound : goal.recover_read-requires-clause-sound
recover_read-requires-clause-sound g c = sound_loaded c.args.image.now.words (g.D.Device.cells c.args.region.now) c.requires.loaded c.requires.admitted.sound

pub recover_read-requires-clause-shape : goal.recover_read-requires-clause-shape
recover_read-requires-clause-shape g c = shape_loaded c.args.image.now.words (g.D.Device.cells c.args.region.now) (layout_shape c.args.read.now.layout) c.requires.loaded c.requires.shape

pub recover_read-requires-clause-records : goal.recover_read-requires-clause-records
recover_read-requires-clause-records g c =
    of_loaded (λ w. IsLogRead c.args.read.now.layout c.as_slice.result.now w) c.args.image.now.words (g.D.Device.cells c.args.region.now) c.requires.loaded
    (subst (λ xs. IsLogRead c.args.read.now.layout xs (words_of c.args.image.now)) (sym c.as_slice.ensures) c.requires.records)

pub tell-requires-clause-long : goal.tell-requires-clause-long
tell-requires-clause-long g c =
    ap length (g.met.D.Device.reads c.recover_read.new.device) ∙ length-newest_words (g.D.Device.cells c.recover_read.new.device) ∙ c.in-Ok.ensures.header.size
    ∙ ap (λ (r : Region). r.size) c.requires.loaded ∙ c.requires.admitted.sound.shape.long ∙ ap words_of_shape (sym c.requires.shape)

pub returns-in-Err : goal.returns-in-Err
returns-in-Err g c = λ before counts since.
    let told = c.in-Err.ensures in
    subst (λ (end : Ended). IsEndOfImage c.args.wanted c.args.image.now before counts (g.D.Device.cells c.recover_read.new.device) (g.D.Device.counts c.recover_read.new.device) end) (sym c.end_of_fault.ensures)
    (failed_end c.args.image.now (g.D.Device.cells c.args.region.now) (g.D.Device.cells c.recover_read.new.device) counts (g.D.Device.counts c.args.region.now) (g.D.Device.counts c.recover_read.new.device)
    c.requires.loaded since c.requires.admitted c.args.wanted before c.in-Err.fault told.header told.owed)

pub returns-in-Ok : goal.returns-in-Ok
returns-in-Ok g c = λ before counts since.
    let told = c.in-Ok.ensures in
    let words = g.met.D.Device.reads c.recover_read.new.device in
    told_end c.args.image.now (g.D.Device.cells c.args.region.now) (g.D.Device.cells c.recover_read.new.device) counts (g.D.Device.counts c.args.region.now) (g.D.Device.counts c.recover_read.new.device)
    c.requires.loaded since c.requires.admitted (g.met.D.Device.full c.recover_read.new.device) c.in-Ok.done told.header told.owed
    c.requires.writable (g.met.D.Device.small c.recover_read.new.device) c.args.wanted before c.tell.result
    (tells_by c.args.wanted (layout_shape c.args.read.now.layout) (shape_of (words_of c.args.image.now)) c.as_slice-in-Ok.result.now c.args.image.now.kinds c.in-Ok.done
    (g.D.Look.words c.recover_read.new.device) (newest_words (g.D.Device.cells c.recover_read.new.device)) c.tell.result c.requires.shape c.as_slice-in-Ok.ensures words c.tell.ensures)
