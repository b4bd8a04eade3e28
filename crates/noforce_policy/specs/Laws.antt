-- The laws of the plans under no-force: wherever a lane has come in one, its next part may begin.
use Rattle.std.specs.Prelude.{◌≡◌, ◌≢◌, ◌⊎◌, ◌↔◌, ℕ, ◌≤◌, List}
use Rattle.persist_model.specs.Region.{Words}
use Rattle.persist_model.specs.Kinds.{CHECKPOINT}
use Rattle.persist_model.specs.Records.{Record, Log, IsAmong, Has, IsRunning, IsEnded}
use Rattle.persist_model.specs.Shape.{Shape, heap_words}
use Rattle.persist_model.specs.Standing.{IsToDelete}
use Rattle.persist_model.specs.State.{State, IsSoundState}
use Rattle.persist_model.specs.Sound.{HasState}
use Rattle.log_laws.specs.Recovery.{HasDecidingRecord}
use Rattle.bucket_log.specs.declared.append.Place.{Place}
use Rattle.plan_records.specs.declared.parts.Update.{Update}
use Rattle.plan_records.specs.declared.parts.Giving.{Giving}
use Rattle.plan_records.specs.declared.parts.Closing.{Closing}
use Rattle.plan_records.specs.declared.parts.Undoing.{Undoing}
use Rattle.log_clearing.specs.Plans.{closing_plan}
use Rattle.log_clearing.specs.Closed.{AreGroups, IsListed}
use Rattle.log_clearing.specs.Clearing.{IsClearing}
use Rattle.plan_records.specs.Cells.{appended}
use Rattle.region_layout.specs.RecordCells.{cell_of_checkpoint}
use Rattle.plan_records.specs.Passing.{inserted}
use Rattle.plan_records.specs.Appends.{MayAppend, MayStandAt, AppendKeeps}
use Rattle.plan_records.specs.Conditions.{CanCheckpoint, AreSweptIn}
use Rattle.plan_records.specs.Courses.{GoesOn, CanCommit, CanAbort}
use Rattle.noforce_policy.specs.Plans.{write_plan, give_plan, commit_plan, abort_plan}

-- of a running transaction
abbrev pub WritesGoOn : Type 0
WritesGoOn = (shape : Shape) (p : ℕ) (s : State) (u : Update) → IsRunning s.log u.transaction → GoesOn shape p u.transaction s (write_plan u)

abbrev pub GivesGoOn : Type 0
GivesGoOn = (shape : Shape) (p : ℕ) (s : State) (g : Giving) → GoesOn shape p g.transaction s (give_plan g)

-- of a running transaction with a record, which gave back these blocks
abbrev pub CommitsGoOn : Type 0
CommitsGoOn = (shape : Shape) (p : ℕ) (s : State) (c : Closing) → CanCommit shape p c.transaction s.log c.deletions → GoesOn shape p c.transaction s (commit_plan c)

-- of a running transaction with a record and no rollback record, whose updates that no compensation names are these, newest first
abbrev pub AbortsGoOn : Type 0
AbortsGoOn = (shape : Shape) (p : ℕ) (s : State) (u : Undoing) → CanAbort shape p u.transaction s.log u.updates → GoesOn shape p u.transaction s (abort_plan u)

-- ---- a checkpoint, while no other record comes

-- the owner words are those of the blocks that committed transactions gave back
abbrev pub AreAllDeletions : Log → List ℕ → Type 0
AreAllDeletions log owners = (a : ℕ) → IsAmong owners a ↔ Has (IsToDelete log a) log

-- The words z have the sound state x, and the lists have the gates of the records of all ended transactions, and of c, each in its group.
pub record MayCloseEnded (shape : Shape) (c : Record) (z : Words) (x : State) (gates ends checkpoints : List ℕ) : Type 0 where
  pub few : shape.partitions ≤ 3
  pub has : HasState shape z x
  pub sound : IsSoundState shape x
  pub groups : AreGroups x.log gates ends checkpoints
  pub ended : (r : Record) → IsAmong x.log r → IsListed gates ends checkpoints r ↔ ((r ≡ c) ⊎ ((r.kind ≢ CHECKPOINT) × IsEnded x.log r.transaction))

-- What the parts behind a sweep leave to a stop: at each prefix of the append of the checkpoint record c each image is sound, with the
-- standing words before, where the sweep is kept in it; with c there the owner words may be stored; and with these at 0 the records of all
-- ended transactions, and c, may be closed.
pub record CheckpointServes (shape : Shape) (w : Words) (s : State) (place : Place) (c : Record) (owners : List ℕ) : Type 0 where
  pub append : AppendKeeps shape 0 w s place c (AreSweptIn shape s)
  pub deletes : (a : ℕ) → IsAmong owners a → HasDecidingRecord shape.policy (inserted c s.log) a
  pub clear : (z v : Words) (x : State) (gates ends checkpoints : List ℕ) (k : ℕ) → x.log ≡ inserted c s.log → MayCloseEnded shape c z x gates ends checkpoints →
      ((a : ℕ) → IsAmong owners a → heap_words shape v a ≡ 0) → MayStandAt shape z (closing_plan gates ends checkpoints) k v → IsClearing shape v x gates ends checkpoints

abbrev pub CheckpointsServe : Type 0
CheckpointsServe = (shape : Shape) (w : Words) (s : State) (chain : List ℕ) (place : Place) (number : ℕ) (owners : List ℕ) →
    MayAppend shape 0 w s chain place (appended place number cell_of_checkpoint) → CanCheckpoint shape s (appended place number cell_of_checkpoint) →
    AreAllDeletions s.log owners → CheckpointServes shape w s place (appended place number cell_of_checkpoint) owners
