-- How a lane follows a plan of its transaction, part by part, while others go on with theirs.
use Rattle.std.specs.Prelude.{◌≡◌, ◌≢◌, ◌↔◌, ℕ, ◌<◌, ◌≤◌, if◌then◌else◌, List, [], ◌∷◌, ◌++◌}
use Rattle.persist_model.specs.declared.event.Event.{Event}
use Rattle.persist_model.specs.Kinds.{COMMITTED, DELETION, END, ROLLED_BACK, UPDATE}
use Rattle.persist_model.specs.declared.event.Event.TheVariants.{Store, PStore, WriteBack, Fence}
use Rattle.persist_model.specs.Region.{Words}
use Rattle.persist_model.specs.Records.{Record, Log, IsAmong, Has, HasNo, IsOf, IsUpdate, IsRollback, IsEnd, IsDeletion, IsRunning, IsCommitted}
use Rattle.persist_model.specs.Shape.{Shape, part_of, heap_words}
use Rattle.persist_model.specs.Need.{is_of, to_undo}
use Rattle.persist_model.specs.State.{State, IsSoundState}
use Rattle.persist_model.specs.Sound.{HasState}
use Rattle.log_laws.specs.Moves.{IsDeletionBy}
use Rattle.log_laws.specs.MoveRoom.{HasItsCells}
use Rattle.log_laws.specs.Recovery.{HasDecidingRecord}
use Rattle.region_layout.specs.declared.cell.Cell.{Cell}
use Rattle.region_layout.specs.declared.layout.Policy.{Policy}
use Rattle.region_layout.specs.declared.layout.Policy.TheVariants.{Force, NoForce}
use Rattle.bucket_log.specs.declared.append.Place.{Place}
use Rattle.plan_records.specs.declared.parts.Update.{Update}
use Rattle.plan_records.specs.declared.parts.Giving.{Giving}
use Rattle.plan_records.specs.declared.parts.Part.{Part}
use Rattle.plan_records.specs.declared.parts.Part.TheVariants.{Append, Word, Fence as Wait, Clear}
use Rattle.bucket_log.specs.Plans.{place_address}
use Rattle.log_clearing.specs.Plans.{closing_plan}
use Rattle.log_clearing.specs.Closed.{AreGroups, IsListed}
use Rattle.log_clearing.specs.Clearing.{IsClearing}
use Rattle.persist_model.specs.declared.kinds.Outcome.TheVariants.{Committed, RolledBack}
use Rattle.plan_records.specs.Cells.{cell_of_update, cell_of_deletion, appended, IsCellOf}
use Rattle.region_layout.specs.RecordCells.{cell_of_rollback, cell_of_end}
use Rattle.plan_records.specs.Sequences.{store_of, undo_parts, owner_parts}
use Rattle.plan_records.specs.Appends.{MayAppend, MayStandAt, with_record, AppendKeeps, AppendCommits}
use Rattle.plan_records.specs.Conditions.{CanUpdate, CanDelete, IsUpdateOf, AreLast, AreWritten}

-- the records of t, newest first
abbrev pub own_records : ℕ → Log → Log
own_records t [] = []
own_records t (r ∷ log) = if is_of t r then r ∷ own_records t log else own_records t log

-- a part that leaves the log as it is
abbrev pub IsAside : Part → Type 0
IsAside (Append cell) = ⊥
IsAside (Word e) = Unit {0}
IsAside Wait = Unit {0}
IsAside Clear = ⊥

-- t has no record with a number as great
abbrev pub IsAboveOwn : ℕ → Log → ℕ → Type 0
IsAboveOwn t log number = (x : Record) → IsAmong log x → IsOf t x → x.lsn < number

-- From the state s a lane follows a plan of the transaction t, whose records stand in the partition p. It has made all parts but the rest,
-- and the state is x. Its appends have added their records, and others have done what they will, but for the records of t.
pub data Course (shape : Shape) (p t : ℕ) (s : State) (plan : List Part) : List Part → State → Type 0 where
  begins : Course shape p t s plan plan s
  appends : {rest : List Part} {x : State} (cell : Cell) (place : Place) (number : ℕ) → Course shape p t s plan (Append cell ∷ rest) x →
      part_of shape (place_address place) ≡ p → IsAboveOwn t x.log number → Course shape p t s plan rest (with_record p x (appended place number cell))
  makes : {rest : List Part} {x : State} (part : Part) → Course shape p t s plan (part ∷ rest) x → IsAside part → Course shape p t s plan rest x
  meanwhile : {rest : List Part} {x : State} (y : State) → Course shape p t s plan rest x → own_records t y.log ≡ own_records t x.log → Course shape p t s plan rest y

-- ---- what the next part leaves to a stop

-- What an append leaves, by the kind of its record. An update and a deletion have conditions on others' records too, which are asked here,
-- and so are the cells for a rollback record and an end whose transaction has no record left; the end of a commit has the standing words as
-- the transaction wrote them where it is there; all else keeps the standing words.
pub record AppendServes (shape : Shape) (p : ℕ) (w : Words) (x : State) (place : Place) (r : Record) : Type 0 where
  pub updates : IsUpdate r → CanUpdate shape x r → AppendKeeps shape p w x place r (IsUpdateOf shape x r)
  pub deletes : IsDeletion r → CanDelete shape x r → AppendKeeps shape p w x place r (λ h. Unit {0})
  pub commits : IsEnd r → r.outcome ≡ COMMITTED → HasItsCells shape x r 1 → AppendCommits shape p w x place r (AreWritten shape x r.transaction)
  pub ends : IsEnd r → r.outcome ≡ ROLLED_BACK → HasItsCells shape x r 1 → AppendKeeps shape p w x place r (AreLast shape x r.transaction)
  pub keeps : r.kind ≢ UPDATE → r.kind ≢ END → r.kind ≢ DELETION → (IsRollback r → HasItsCells shape x r 2) → AppendKeeps shape p w x place r (λ h. Unit {0})

-- a store to a word whose standing value a record decides
abbrev pub IsCoveredStore : ℕ → Log → Event → Type 0
IsCoveredStore policy log (Store a v) = HasDecidingRecord policy log a
IsCoveredStore policy log (PStore a v) = HasDecidingRecord policy log a
IsCoveredStore policy log (WriteBack a) = Unit {0}
IsCoveredStore policy log Fence = Unit {0}

-- where t is committed, the owner word of each block that it gave back is 0
abbrev pub AreDeleted : Log → ℕ → Words → Type 0
AreDeleted log t h = IsCommitted log t → (a : ℕ) → Has (IsDeletionBy t a) log → h a ≡ 0

-- the lists have the gates of t's records
abbrev pub AreGatesOf : Log → ℕ → List ℕ → List ℕ → List ℕ → Type 0
AreGatesOf log t gates ends checkpoints = (r : Record) → IsAmong log r → IsListed gates ends checkpoints r ↔ IsOf t r

-- The words z have the sound state x, and the lists have the gates of t's records, each in its group.
pub record MayCloseOwn (shape : Shape) (t : ℕ) (z : Words) (x : State) (gates ends checkpoints : List ℕ) : Type 0 where
  pub few : shape.partitions ≤ 3
  pub has : HasState shape z x
  pub sound : IsSoundState shape x
  pub groups : AreGroups x.log gates ends checkpoints
  pub own : AreGatesOf x.log t gates ends checkpoints

-- Under force the records of t may be closed: at each prefix of the closing each image is sound, with the standing words before, where
-- what t deleted is 0 in it.
abbrev pub ClearServes : Shape → ℕ → State → Type 0
ClearServes shape t x = (z v : Words) (gates ends checkpoints : List ℕ) (k : ℕ) → shape.policy ≢ 2 → MayCloseOwn shape t z x gates ends checkpoints →
    AreDeleted x.log t (heap_words shape v) → MayStandAt shape z (closing_plan gates ends checkpoints) k v → IsClearing shape v x gates ends checkpoints

-- The next part may begin: an append and the closing leave what they do, and a store keeps the standing words.
abbrev pub MayBegin : Shape → ℕ → ℕ → State → Part → Type 0
MayBegin shape p t x (Append cell) = (w : Words) (chain : List ℕ) (place : Place) (number : ℕ) →
    MayAppend shape p w x chain place (appended place number cell) → AppendServes shape p w x place (appended place number cell)
MayBegin shape p t x (Word e) = IsCoveredStore shape.policy x.log e
MayBegin shape p t x Wait = Unit {0}
MayBegin shape p t x Clear = ClearServes shape t x

-- Wherever the lane has come in the plan, its next part may begin.
abbrev pub GoesOn : Shape → ℕ → ℕ → State → List Part → Type 0
GoesOn shape p t s plan = (part : Part) (rest : List Part) (x : State) → Course shape p t s plan (part ∷ rest) x → MayBegin shape p t x part

-- ---- the conditions of the plans that end a transaction

-- t runs, and what records it has stand in the partition p
pub record IsGoing (shape : Shape) (p t : ℕ) (log : Log) : Type 0 where
  pub transaction : 1 ≤ t
  pub running : IsRunning log t
  pub in_part : (y : Record) → IsAmong log y → IsOf t y → part_of shape y.at ≡ p

-- the owner words are of blocks that t gave back
abbrev pub AreGiven : ℕ → Log → List ℕ → Type 0
AreGiven t log owners = (a : ℕ) → IsAmong owners a → Has (λ d. IsDeletion d × (d.word ≡ a) × (d.transaction ≡ t)) log

-- t may commit, and these are owner words of blocks that it gave back
pub record CanCommit (shape : Shape) (p t : ℕ) (log : Log) (owners : List ℕ) : Type 0 where
  pub going : IsGoing shape p t log
  pub given : AreGiven t log owners

-- the cells of these records, in the same order
abbrev pub AreCellsOf : List Cell → Log → Type 0
AreCellsOf [] [] = Unit {0}
AreCellsOf [] (u ∷ us) = ⊥
AreCellsOf (cell ∷ cells) [] = ⊥
AreCellsOf (cell ∷ cells) (u ∷ us) = IsCellOf cell u × AreCellsOf cells us

-- t has no rollback record yet, and these are its updates that no compensation names, newest first
pub record CanAbort (shape : Shape) (p t : ℕ) (log : Log) (updates : List Cell) : Type 0 where
  pub going : IsGoing shape p t log
  pub first : HasNo (λ x. IsOf t x × IsRollback x) log
  pub left : AreCellsOf updates (to_undo t log)

-- ---- the plans, under both policies

abbrev pub write_parts : Policy → Update → List Part
write_parts policy u = Append (cell_of_update u) ∷ Word (store_of policy u.word u.after) ∷ []

abbrev pub give_parts : Giving → List Part
give_parts g = Append (cell_of_deletion g) ∷ []

abbrev pub commit_parts : Policy → ℕ → List ℕ → List Part
commit_parts Force t owners = Wait ∷ Append (cell_of_end t Committed) ∷ (owner_parts owners ++ Clear ∷ [])
commit_parts NoForce t owners = Append (cell_of_end t Committed) ∷ []

-- how an undo ends
abbrev pub undo_end : Policy → ℕ → List Part
undo_end Force t = Wait ∷ Append (cell_of_end t RolledBack) ∷ Clear ∷ []
undo_end NoForce t = Append (cell_of_end t RolledBack) ∷ []

abbrev pub abort_parts : Policy → ℕ → List Cell → List Part
abort_parts policy t updates = Append (cell_of_rollback t) ∷ (undo_parts policy updates ++ undo_end policy t)

-- ---- the laws

-- A transaction that had a record when its plan began has one wherever its lane has come: so the cells of its end are kept.
abbrev pub CoursesKeepRecords : Type 0
CoursesKeepRecords = (shape : Shape) (p t : ℕ) (s : State) (plan rest : List Part) (x : State) → Course shape p t s plan rest x → Has (IsOf t) s.log → Has (IsOf t) x.log

abbrev pub WritesGoOn : Type 0
WritesGoOn = (policy : Policy) (shape : Shape) (p : ℕ) (s : State) (u : Update) → IsRunning s.log u.transaction → GoesOn shape p u.transaction s (write_parts policy u)

abbrev pub GivesGoOn : Type 0
GivesGoOn = (shape : Shape) (p : ℕ) (s : State) (g : Giving) → GoesOn shape p g.transaction s (give_parts g)

abbrev pub CommitsGoOn : Type 0
CommitsGoOn = (policy : Policy) (shape : Shape) (p t : ℕ) (s : State) (owners : List ℕ) → CanCommit shape p t s.log owners → GoesOn shape p t s (commit_parts policy t owners)

abbrev pub AbortsGoOn : Type 0
AbortsGoOn = (policy : Policy) (shape : Shape) (p t : ℕ) (s : State) (updates : List Cell) → CanAbort shape p t s.log updates → GoesOn shape p t s (abort_parts policy t updates)
