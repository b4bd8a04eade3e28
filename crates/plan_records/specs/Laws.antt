-- The laws of the appends, one for each kind of record, and of what stands between them.
use Rattle.std.specs.Prelude.{◌≡◌, ◌⊎◌, ℕ, ◌<◌, List}
use Rattle.persist_model.specs.Region.{Words}
use Rattle.persist_model.specs.Records.{Record}
use Rattle.persist_model.specs.Shape.{Shape, log_words}
use Rattle.persist_model.specs.Chain.{view}
use Rattle.persist_model.specs.State.{State, IsSoundState}
use Rattle.persist_model.specs.Sound.{HasState}
use Rattle.log_laws.specs.Recovery.{HasDecidingRecord, KeepsStanding}
use Rattle.log_laws.specs.Recovering.{with_heap}
use Rattle.atomic_list.specs.declared.plans.Remove.{Remove}
use Rattle.region_layout.specs.declared.cell.Cell.{Cell}
use Rattle.region_layout.specs.Layout.{IsAllowed}
use Rattle.bucket_log.specs.declared.append.Place.{Place}
use Rattle.plan_records.specs.declared.parts.Update.{Update}
use Rattle.plan_records.specs.declared.parts.Giving.{Giving}
use Rattle.log_clearing.specs.Removals.{CanDrop, region_removal, more_room}
use Rattle.persist_model.specs.declared.kinds.Outcome.TheVariants.{Committed, RolledBack}
use Rattle.plan_records.specs.Cells.{cell_of_update, cell_of_deletion, appended, IsCellOf}
use Rattle.region_layout.specs.RecordCells.{cell_of_compensation, cell_of_rollback, cell_of_end, cell_of_checkpoint}
use Rattle.plan_records.specs.Appends.{MayAppend, MayStandAt, Keeps, AppendKeeps, AppendCommits}
use Rattle.plan_records.specs.Conditions.{CanUpdate, CanDelete, CanRollBack, CanCompensate, CanEndUndone, CanCheckpoint, IsOfOpen, IsUpdateOf, AreLast, AreSweptIn, AreWritten}

abbrev pub UpdatesKeep : Type 0
UpdatesKeep = (shape : Shape) (p : ℕ) (w : Words) (s : State) (chain : List ℕ) (place : Place) (number : ℕ) (update : Update) →
    let u = appended place number (cell_of_update update) in
    MayAppend shape p w s chain place u → CanUpdate shape s u → AppendKeeps shape p w s place u (IsUpdateOf shape s u)

abbrev pub DeletionsKeep : Type 0
DeletionsKeep = (shape : Shape) (p : ℕ) (w : Words) (s : State) (chain : List ℕ) (place : Place) (number : ℕ) (giving : Giving) →
    let d = appended place number (cell_of_deletion giving) in
    MayAppend shape p w s chain place d → CanDelete shape s d → AppendKeeps shape p w s place d (λ h. Unit {0})

abbrev pub RollbacksKeep : Type 0
RollbacksKeep = (shape : Shape) (p : ℕ) (w : Words) (s : State) (chain : List ℕ) (place : Place) (number transaction : ℕ) →
    let r = appended place number (cell_of_rollback transaction) in
    MayAppend shape p w s chain place r → CanRollBack shape s r → AppendKeeps shape p w s place r (λ h. Unit {0})

-- the cell is that of the update, with any number
abbrev pub CompensationsKeep : Type 0
CompensationsKeep = (shape : Shape) (p : ℕ) (w : Words) (s : State) (chain : List ℕ) (place : Place) (number : ℕ) (u : Record) (cell : Cell) →
    let c = appended place number (cell_of_compensation cell) in
    IsCellOf cell u → MayAppend shape p w s chain place c → CanCompensate shape s c u → AppendKeeps shape p w s place c (λ h. Unit {0})

abbrev pub UndoneEndsKeep : Type 0
UndoneEndsKeep = (shape : Shape) (p : ℕ) (w : Words) (s : State) (chain : List ℕ) (place : Place) (number transaction : ℕ) →
    let e = appended place number (cell_of_end transaction RolledBack) in
    MayAppend shape p w s chain place e → CanEndUndone shape s e → AppendKeeps shape p w s place e (AreLast shape s transaction)

abbrev pub CheckpointsKeep : Type 0
CheckpointsKeep = (shape : Shape) (p : ℕ) (w : Words) (s : State) (chain : List ℕ) (place : Place) (number : ℕ) →
    let c = appended place number cell_of_checkpoint in
    MayAppend shape p w s chain place c → CanCheckpoint shape s c → AppendKeeps shape p w s place c (AreSweptIn shape s)

abbrev pub CommitEndsWrite : Type 0
CommitEndsWrite = (shape : Shape) (p : ℕ) (w : Words) (s : State) (chain : List ℕ) (place : Place) (number transaction : ℕ) →
    let e = appended place number (cell_of_end transaction Committed) in
    MayAppend shape p w s chain place e → IsOfOpen shape s e 1 → AppendCommits shape p w s place e (AreWritten shape s transaction)

-- Stores to words whose standing value a record decides keep all standing words.
abbrev pub StoresKeep : Type 0
StoresKeep = (policy : ℕ) (s : State) (h x : Words) → ((a : ℕ) → (x a ≡ h a) ⊎ HasDecidingRecord policy s.log a) → KeepsStanding policy (with_heap s h) (with_heap s x)

-- At each prefix of the removal of a closed bucket each image has the records before, is sound, and has the standing words before.
abbrev pub DropsKeep : Type 0
DropsKeep = (shape : Shape) (p : ℕ) (w v : Words) (s : State) (r : Remove) (k : ℕ) → IsAllowed shape → p < shape.partitions → HasState shape w s → IsSoundState shape s →
    CanDrop shape p (view p (log_words shape w)) r → MayStandAt shape w (region_removal p r) k v →
    Keeps shape v s s ⊎ Keeps shape v s (record s { room = more_room p shape.cells s.room })
