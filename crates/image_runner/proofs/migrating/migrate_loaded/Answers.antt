use Rattle.std.proofs.Common.{◌≡◌, ◌∙◌, ℕ, sym, ap, subst, List, slice_index, Err}
use Rattle.persist_model.specs.Region.{newest_words}
use Rattle.persist_model.specs.Shape.{shape_of}
use Rattle.image_text.specs.declared.image.Image.{Image}
use Rattle.sound_check.specs.Faulty.{IfUnsound}
use Rattle.recovery_passes.specs.Reading.{IsLogRead}
use Rattle.recovery_passes.specs.declared.recovering.RecoverFault.{RecoverFault}
use Rattle.image_runner.specs.Ends.{IsAdmitted, IsRefusedBy}
use Rattle.image_runner.specs.Migrations.{IsComing}
use Rattle.image_runner.proofs.Kept.{newest_loaded}
use Rattle.image_runner.proofs.Recovering.{image_by}
use Rattle.image_runner.proofs.MigrationEnds.{refused_coming}
use Rattle.image_runner.proofs.migrating.migrate_loaded.Goals as goal
use Rattle.image_runner.proofs.migrating.migrate_loaded.Goals.{After-as_slice}

words : (g : _) (c : After-as_slice g) → g.D.Look.words c.args.region.now ≡ c.args.image.now.words
words g c = g.met.D.Device.reads c.args.region.now ∙ ap newest_words c.requires.loaded ∙ newest_loaded c.args.image.now.words

pub migrate_admitted-requires-clause-admitted : goal.migrate_admitted-requires-clause-admitted
migrate_admitted-requires-clause-admitted g c =
    let same = words g (goal.at.migrate_admitted-requires-clause-admitted g c).After-as_slice in
    subst IsAdmitted (image_by c.args.image.now c.as_slice.result.now (g.D.Look.words c.args.region.now) c.as_slice.ensures same) c.in-Ok.ensures.admitted

pub migrate_admitted-requires-clause-shape : goal.migrate_admitted-requires-clause-shape
migrate_admitted-requires-clause-shape g c =
    c.in-Ok.ensures.shape ∙ ap (λ (ws : List ℕ). shape_of (slice_index ws)) (words g (goal.at.migrate_admitted-requires-clause-shape g c).After-as_slice)

pub migrate_admitted-requires-clause-records : goal.migrate_admitted-requires-clause-records
migrate_admitted-requires-clause-records g c =
    subst (λ (ws : List ℕ). IsLogRead c.in-Ok.read.layout c.in-Ok.read.records (slice_index ws)) (words g (goal.at.migrate_admitted-requires-clause-records g c).After-as_slice) c.in-Ok.ensures.records

pub returns-in-Err : goal.returns-in-Err
returns-in-Err g c = λ before counts since.
    let image = image_by c.args.image.now c.as_slice.result.now (g.D.Look.words c.args.region.now) c.as_slice.ensures (words g (goal.at.returns-in-Err g c).After-as_slice) in
    subst (λ (why : RecoverFault). IsComing c.args.image.now before counts (g.D.Device.cells c.args.region.now) (g.D.Device.counts c.args.region.now) (Err why)) (sym c.from.ensures)
    (refused_coming c.args.image.now before (g.D.Device.cells c.args.region.now) counts (g.D.Device.counts c.args.region.now) c.in-Err.refusal
    (record { words = c.requires.loaded; unmade = since }) (subst (λ (i : Image). IfUnsound c.in-Err.refusal (IsRefusedBy i)) image c.in-Err.ensures.refused))
