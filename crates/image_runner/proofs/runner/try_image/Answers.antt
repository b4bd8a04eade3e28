use Rattle.std.proofs.Common.{◌≡◌, ◌∙◌, ℕ, sym, ap, subst, List, slice_index}
use Rattle.persist_model.specs.Region.{newest_words}
use Rattle.persist_model.specs.Shape.{shape_of}
use Rattle.image_text.specs.declared.image.Image.{Image}
use Rattle.sound_check.specs.Faulty.{IfUnsound}
use Rattle.recovery_passes.specs.Reading.{IsLogRead}
use Rattle.image_runner.specs.declared.runner.Ended.{Ended}
use Rattle.image_runner.specs.Ends.{IsEndOfImage, IsAdmitted, IsRefusedBy}
use Rattle.image_runner.proofs.Kept.{newest_loaded}
use Rattle.image_runner.proofs.Recovering.{refused_end, image_by}
use Rattle.image_runner.proofs.runner.try_image.Goals as goal
use Rattle.image_runner.proofs.runner.try_image.Goals.{After-as_slice}

words : (g : _) (c : After-as_slice g) → g.D.Look.words c.args.region.now ≡ c.args.image.now.words
words g c = g.met.D.Device.reads c.args.region.now ∙ ap newest_words c.requires.loaded ∙ newest_loaded c.args.image.now.words

pub recover_loaded-requires-clause-admitted : goal.recover_loaded-requires-clause-admitted
recover_loaded-requires-clause-admitted g c =
    let same = words g (goal.at.recover_loaded-requires-clause-admitted g c).After-as_slice in
    subst IsAdmitted (image_by c.args.image.now c.as_slice.result.now (g.D.Look.words c.args.region.now) c.as_slice.ensures same) c.in-Ok.ensures.admitted

pub recover_loaded-requires-clause-shape : goal.recover_loaded-requires-clause-shape
recover_loaded-requires-clause-shape g c =
    c.in-Ok.ensures.shape ∙ ap (λ (ws : List ℕ). shape_of (slice_index ws)) (words g (goal.at.recover_loaded-requires-clause-shape g c).After-as_slice)

pub recover_loaded-requires-clause-records : goal.recover_loaded-requires-clause-records
recover_loaded-requires-clause-records g c =
    subst (λ (ws : List ℕ). IsLogRead c.in-Ok.read.layout c.in-Ok.read.records (slice_index ws)) (words g (goal.at.recover_loaded-requires-clause-records g c).After-as_slice) c.in-Ok.ensures.records

pub returns-in-Err : goal.returns-in-Err
returns-in-Err g c = λ before counts since.
    let image = image_by c.args.image.now c.as_slice.result.now (g.D.Look.words c.args.region.now) c.as_slice.ensures (words g (goal.at.returns-in-Err g c).After-as_slice) in
    subst (λ (end : Ended). IsEndOfImage c.args.wanted c.args.image.now before counts (g.D.Device.cells c.args.region.now) (g.D.Device.counts c.args.region.now) end) (sym c.end_of_refusal.ensures)
    (refused_end c.args.wanted c.args.image.now before (g.D.Device.cells c.args.region.now) counts (g.D.Device.counts c.args.region.now) c.in-Err.refusal
    (record { words = c.requires.loaded; unmade = since }) (subst (λ (i : Image). IfUnsound c.in-Err.refusal (IsRefusedBy i)) image c.in-Err.ensures.refused))
