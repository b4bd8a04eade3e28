-- While a checkpoint has all partitions, one part of it is under way and nothing else, and no commit is in flight.
use Rattle.std.specs.Prelude.{◌≡◌, ℕ, ◌<◌, ◌≤◌, List, []}
use Rattle.persist_model.specs.Region.{Words}
use Rattle.persist_model.specs.Progress.{Reaches}
use Rattle.persist_model.specs.Runs.{progress_at}
use Rattle.persist_model.specs.Standing.{Stands}
use Rattle.persist_model.specs.Shape.{shape_of, heap, heap_words, IsHeapWord, IsShape}
use Rattle.persist_model.specs.State.{State, IsSoundState}
use Rattle.persist_model.specs.Sound.{HasState}
use Rattle.log_laws.specs.Closing.{MayClear}
use Rattle.bucket_log.specs.declared.append.Place.{Place}
use Rattle.bucket_log.specs.Appends.{region_append}
use Rattle.log_clearing.specs.Plans.{closing_plan}
use Rattle.log_clearing.specs.Closed.{AreGroups, IsListed}
use Rattle.plan_records.specs.Cells.{appended}
use Rattle.region_layout.specs.RecordCells.{cell_of_checkpoint}
use Rattle.plan_records.specs.Appends.{MayAppend, MayStandAt}
use Rattle.plan_records.specs.Conditions.{CanCheckpoint, AreSweptIn}
use Rattle.history_laws.specs.Histories.{Entry, fold}
use Rattle.history_laws.specs.Stands.{StandsFor, IsHeader}

-- the settled log stands for the history with i's heap words, and i has the region's header
pub record IsSettledFor (base : Words) (s : State) (start : Words) (history : List Entry) (i : Words) : Type 0 where
  pub header : (a : ℕ) → IsHeader a → i a ≡ base a
  pub standing : (a : ℕ) → IsHeapWord (shape_of base) a → Stands (base 1) s.log (heap_words (shape_of base) i) a (fold start history a)

-- at each prefix of the append of the checkpoint's record
abbrev pub CheckpointsStand : Type 0
CheckpointsStand = (size : ℕ) (base : Words) (s : State) (start : Words) (history : List Entry) (i : Words) (chain : List ℕ) (place : Place) (number made : ℕ) →
    let shape = shape_of base in
    let c = appended place number cell_of_checkpoint in
    IsShape size base → IsSettledFor base s start history i → MayAppend shape 0 base s chain place c → CanCheckpoint shape s c → AreSweptIn shape s (heap_words shape i) →
    MayStandAt shape base (region_append shape 0 place c) made i → StandsFor size start history [] i

-- and of the closing of a group of records of all partitions
abbrev pub CheckpointClosingsStand : Type 0
CheckpointClosingsStand = (size : ℕ) (base : Words) (s : State) (start : Words) (history : List Entry) (i : Words) (gates ends checkpoints : List ℕ) (made : ℕ) →
    let shape = shape_of base in
    IsShape size base → IsSettledFor base s start history i → shape.partitions ≤ 3 → HasState shape base s → IsSoundState shape s →
    AreGroups s.log gates ends checkpoints → MayClear shape.policy s.log (heap_words shape i) (IsListed gates ends checkpoints) →
    Reaches (λ a. a < heap shape) (progress_at base (closing_plan gates ends checkpoints) made) i → StandsFor size start history [] i
