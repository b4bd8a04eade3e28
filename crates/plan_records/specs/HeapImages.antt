-- What a lane under force leaves to a stop, with no condition on heap words: its own stores and fences meet them.
use Rattle.std.specs.Prelude.{◌≡◌, ◌≢◌, ◌⊎◌, ℕ, Bool, IsTrue, List, ◌∷◌, length, take}
use Rattle.persist_model.specs.Region.{Words, Region}
use Rattle.persist_model.specs.Progress.{Progress}
use Rattle.persist_model.specs.Records.{Record, IsAmong}
use Rattle.persist_model.specs.Order.{undo_point}
use Rattle.persist_model.specs.Shape.{Shape}
use Rattle.persist_model.specs.State.{State, IsSoundState}
use Rattle.log_laws.specs.MoveRoom.{HasItsCells}
use Rattle.region_layout.specs.declared.cell.Cell.{Cell}
use Rattle.region_layout.specs.declared.layout.Policy.TheVariants.{Force}
use Rattle.bucket_log.specs.declared.append.Place.{Place}
use Rattle.plan_records.specs.declared.parts.Update.{Update}
use Rattle.plan_records.specs.declared.parts.Part.{Part}
use Rattle.plan_records.specs.declared.parts.Part.TheVariants.{Append, Clear}
use Rattle.bucket_log.specs.Appends.{region_append}
use Rattle.log_clearing.specs.Plans.{closing_plan}
use Rattle.log_clearing.specs.Clearing.{IsClearing}
use Rattle.persist_model.specs.declared.kinds.Outcome.TheVariants.{Committed, RolledBack}
use Rattle.plan_records.specs.Cells.{cell_of_update, appended}
use Rattle.region_layout.specs.RecordCells.{cell_of_end}
use Rattle.plan_records.specs.Appends.{MayAppend, MayStandAt, Keeps, Commits, with_record}
use Rattle.plan_records.specs.Conditions.{CanUpdate}
use Rattle.plan_records.specs.Courses.{MayCloseOwn, CanCommit, CanAbort, commit_parts, abort_parts}
use Rattle.plan_records.specs.HeapCourses.{newest, IsChanged, AreNewest, IsInStep, Goes, IsTrackedImage}
use Rattle.plan_records.specs.HeapClears.{AreAllGiven}

-- The image i has the records of x, or those and r, is sound, and has the standing words before; behind the whole append it has r.
pub record LeavesKept (shape : Shape) (p : ℕ) (x : State) (place : Place) (r : Record) (k : ℕ) (i : Words) : Type 0 where
  pub either : Keeps shape i x x ⊎ Keeps shape i x (with_record p x r)
  pub whole : k ≡ length (region_append shape p place r) → Keeps shape i x (with_record p x r)

-- or with r the words stand as its transaction wrote them
pub record LeavesCommitted (shape : Shape) (p : ℕ) (x : State) (place : Place) (r : Record) (k : ℕ) (i : Words) : Type 0 where
  pub either : Keeps shape i x x ⊎ Commits shape i x r.transaction (with_record p x r)
  pub whole : k ≡ length (region_append shape p place r) → Commits shape i x r.transaction (with_record p x r)

-- an update by a lane in step, whose OLD is the newest value of its word
abbrev pub UpdatesLeave : Type 0
UpdatesLeave = (shape : Shape) (p : ℕ) (w : Words) (x : State) (u : Update) (chain : List ℕ) (place : Place) (number : ℕ) (z : Progress) (k : ℕ) (test : ℕ → Bool) (lane : ℕ)
    (region : Region) (i : Words) →
    let r = appended place number (cell_of_update u) in
    shape.policy ≢ 2 → MayAppend shape p w x chain place r → CanUpdate shape x r → u.undo_next ≡ undo_point u.transaction x.log → IsInStep shape x.log u.transaction z →
    u.before ≡ newest z u.word → IsTrue (test u.word) → IsTrackedImage test lane z (take k (region_append shape p place r)) region i →
    MayStandAt shape w (region_append shape p place r) k i → LeavesKept shape p x place r k i

-- the end of a commit
abbrev pub CommitsLeave : Type 0
CommitsLeave = (shape : Shape) (p t : ℕ) (s : State) (owners : List ℕ) (q : Progress) (rest : List Part) (w : Words) (x : State) (z : Progress) (chain : List ℕ) (place : Place)
    (number k : ℕ) (test : ℕ → Bool) (lane : ℕ) (region : Region) (i : Words) →
    let r = appended place number (cell_of_end t Committed) in
    IsSoundState shape s → CanCommit shape p t s.log owners → AreNewest s.log t q →
    Goes shape p t s (commit_parts Force t owners) q (Append (cell_of_end t Committed) ∷ rest) x z → MayAppend shape p w x chain place r → HasItsCells shape x r 1 →
    ((a : ℕ) → IsChanged x.log t a → IsTrue (test a)) → IsTrackedImage test lane z (take k (region_append shape p place r)) region i →
    MayStandAt shape w (region_append shape p place r) k i → LeavesCommitted shape p x place r k i

-- the end of an undo
abbrev pub AbortsLeave : Type 0
AbortsLeave = (shape : Shape) (p t : ℕ) (s : State) (updates : List Cell) (q : Progress) (rest : List Part) (w : Words) (x : State) (z : Progress) (chain : List ℕ) (place : Place)
    (number k : ℕ) (test : ℕ → Bool) (lane : ℕ) (region : Region) (i : Words) →
    let r = appended place number (cell_of_end t RolledBack) in
    IsSoundState shape s → CanAbort shape p t s.log updates → AreNewest s.log t q →
    Goes shape p t s (abort_parts Force t updates) q (Append (cell_of_end t RolledBack) ∷ rest) x z → MayAppend shape p w x chain place r → HasItsCells shape x r 1 →
    ((a : ℕ) → IsChanged x.log t a → IsTrue (test a)) → IsTrackedImage test lane z (take k (region_append shape p place r)) region i →
    MayStandAt shape w (region_append shape p place r) k i → LeavesKept shape p x place r k i

-- the clearing behind a commit, whose owners are all that it deletes, and behind an undo
pub record ClearsLeave : Type 0 where
  pub committed : (shape : Shape) (p t : ℕ) (s : State) (owners : List ℕ) (q : Progress) (rest : List Part) (w : Words) (x : State) (z : Progress)
      (gates ends checkpoints : List ℕ) (k : ℕ) (test : ℕ → Bool) (lane : ℕ) (region : Region) (i : Words) →
      shape.policy ≢ 2 → IsSoundState shape s → CanCommit shape p t s.log owners → AreAllGiven t s.log owners → Goes shape p t s (commit_parts Force t owners) q (Clear ∷ rest) x z →
      MayCloseOwn shape t w x gates ends checkpoints → ((a : ℕ) → IsAmong owners a → IsTrue (test a)) →
      IsTrackedImage test lane z (take k (closing_plan gates ends checkpoints)) region i → MayStandAt shape w (closing_plan gates ends checkpoints) k i →
      IsClearing shape i x gates ends checkpoints
  pub undone : (shape : Shape) (p t : ℕ) (s : State) (updates : List Cell) (q : Progress) (rest : List Part) (w : Words) (x : State) (z : Progress)
      (gates ends checkpoints : List ℕ) (k : ℕ) (i : Words) →
      shape.policy ≢ 2 → CanAbort shape p t s.log updates → Goes shape p t s (abort_parts Force t updates) q (Clear ∷ rest) x z →
      MayCloseOwn shape t w x gates ends checkpoints → MayStandAt shape w (closing_plan gates ends checkpoints) k i →
      IsClearing shape i x gates ends checkpoints
