-- A lane under force meets the conditions on heap words, so what its parts leave to a stop hangs on the log alone.
use Rattle.std.proofs.Common.{ℕ, ◌∷◌, take, refl, subst}
use Rattle.persist_model.specs.Region.{Words}
use Rattle.persist_model.specs.Records.{Record}
use Rattle.persist_model.specs.Shape.{Shape, heap_words}
use Rattle.persist_model.specs.State.{State}
use Rattle.region_layout.specs.declared.layout.Policy.TheVariants.{Force}
use Rattle.bucket_log.specs.declared.append.Place.{Place}
use Rattle.plan_records.specs.declared.parts.Part.TheVariants.{Append, Clear}
use Rattle.bucket_log.specs.Appends.{region_append}
use Rattle.log_clearing.specs.Plans.{closing_plan}
use Rattle.persist_model.specs.declared.kinds.Outcome.TheVariants.{Committed, RolledBack}
use Rattle.plan_records.specs.Cells.{cell_of_update, appended}
use Rattle.region_layout.specs.RecordCells.{cell_of_end}
use Rattle.plan_records.specs.Appends.{MayStandAt, AppendKeeps, AppendCommits}
use Rattle.plan_records.specs.Conditions.{IsUpdateOf, AreWritten, AreLast}
use Rattle.plan_records.specs.Courses.{commit_parts, abort_parts}
use Rattle.plan_records.specs.HeapImages.{LeavesKept, LeavesCommitted, UpdatesLeave, CommitsLeave, AbortsLeave, ClearsLeave}
use Rattle.plan_records.proofs.Records.{updates_keep}
use Rattle.plan_records.proofs.CommitCourse.{commits_go_on}
use Rattle.plan_records.proofs.AbortCourse.{aborts_go_on}
use Rattle.plan_records.proofs.HeapGoing.{goes_are_courses}
use Rattle.plan_records.proofs.HeapCommits.{commits_meet}
use Rattle.plan_records.proofs.HeapAborts.{aborts_meet}
use Rattle.plan_records.proofs.HeapRegions.{log_plans_are_on_log, heap_images_reach}
use Rattle.plan_records.proofs.HeapClears.{clears_meet}
use Rattle.plan_records.proofs.HeapUpdates.{updates_meet}

kept : (shape : Shape) (p : ℕ) (w : Words) (x : State) (place : Place) (r : Record) (C : Words → Type 0) (k : ℕ) (i : Words) → AppendKeeps shape p w x place r C →
    C (heap_words shape i) → MayStandAt shape w (region_append shape p place r) k i → LeavesKept shape p x place r k i
kept shape p w x place r C k i keeps c stands = record {
  either = keeps.images k i c stands;
  whole = λ e. keeps.whole i c (subst (λ n. MayStandAt shape w (region_append shape p place r) n i) e stands);
}

committed : (shape : Shape) (p : ℕ) (w : Words) (x : State) (place : Place) (r : Record) (C : Words → Type 0) (k : ℕ) (i : Words) → AppendCommits shape p w x place r C →
    C (heap_words shape i) → MayStandAt shape w (region_append shape p place r) k i → LeavesCommitted shape p x place r k i
committed shape p w x place r C k i commits c stands = record {
  either = commits.images k i c stands;
  whole = λ e. commits.whole i c (subst (λ n. MayStandAt shape w (region_append shape p place r) n i) e stands);
}

pub updates_leave : UpdatesLeave
updates_leave shape p w x u chain place number z k test lane region i force may can next step old on tracked stands =
    let r : Record = appended place number (cell_of_update u) in
    kept shape p w x place r (IsUpdateOf shape x r) k i (updates_keep shape p w x chain place number u may can)
    (updates_meet shape x u place number z (heap_words shape i) force may.sound can next step old
    (heap_images_reach.word shape u.word test lane z (take k (region_append shape p place r)) region i can.word on
    (log_plans_are_on_log.appends shape p w x chain place r k may) tracked)) stands

pub commits_leave : CommitsLeave
commits_leave shape p t s owners q rest w x z chain place number k test lane region i sound can first goes may kept_cells has tracked stands =
    let r : Record = appended place number (cell_of_end t Committed) in
    let course = goes_are_courses shape p t s (commit_parts Force t owners) q (Append (cell_of_end t Committed) ∷ rest) x z goes in
    committed shape p w x place r (AreWritten shape x t) k i ((commits_go_on Force shape p t s owners can (Append (cell_of_end t Committed)) rest x course w chain place number may).commits refl refl kept_cells)
    (commits_meet shape p t s owners q rest x z (heap_words shape i) sound first goes
    (heap_images_reach.changed shape t x test lane z (take k (region_append shape p place r)) region i may.sound has
    (log_plans_are_on_log.appends shape p w x chain place r k may) tracked)) stands

pub aborts_leave : AbortsLeave
aborts_leave shape p t s updates q rest w x z chain place number k test lane region i sound can first goes may kept_cells has tracked stands =
    let r : Record = appended place number (cell_of_end t RolledBack) in
    let course = goes_are_courses shape p t s (abort_parts Force t updates) q (Append (cell_of_end t RolledBack) ∷ rest) x z goes in
    kept shape p w x place r (AreLast shape x t) k i ((aborts_go_on Force shape p t s updates can (Append (cell_of_end t RolledBack)) rest x course w chain place number may).ends refl refl kept_cells)
    (aborts_meet shape p t s updates q rest x z (heap_words shape i) sound can first goes
    (heap_images_reach.changed shape t x test lane z (take k (region_append shape p place r)) region i may.sound has
    (log_plans_are_on_log.appends shape p w x chain place r k may) tracked)) stands

pub clears_leave : ClearsLeave
clears_leave = record {
  committed = λ shape p t s owners q rest w x z gates ends checkpoints k test lane region i force sound can given goes may has tracked stands.
      commits_go_on Force shape p t s owners can Clear rest x (goes_are_courses shape p t s (commit_parts Force t owners) q (Clear ∷ rest) x z goes) w i gates ends checkpoints k force may
      (clears_meet.committed shape p t s owners q rest x z (heap_words shape i) sound can given goes
      (heap_images_reach.owners shape t s owners test lane z (take k (closing_plan gates ends checkpoints)) region i sound can.given has
      (log_plans_are_on_log.closings shape t w x gates ends checkpoints k may) tracked)) stands;
  undone = λ shape p t s updates q rest w x z gates ends checkpoints k i force can goes may stands.
      aborts_go_on Force shape p t s updates can Clear rest x (goes_are_courses shape p t s (abort_parts Force t updates) q (Clear ∷ rest) x z goes) w i gates ends checkpoints k force may
      (clears_meet.undone shape p t s updates q rest x z (heap_words shape i) can goes) stands;
}
