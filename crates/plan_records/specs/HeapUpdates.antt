-- What the lane of an update must know of its OLD.
use Rattle.std.specs.Prelude.{◌≡◌, ◌≢◌, ℕ}
use Rattle.persist_model.specs.Region.{Words}
use Rattle.persist_model.specs.Progress.{Progress}
use Rattle.persist_model.specs.Records.{Record, HasNo, IsRunning}
use Rattle.persist_model.specs.Standing.{IsToRedo, IsLatest}
use Rattle.persist_model.specs.Order.{undo_point}
use Rattle.persist_model.specs.Shape.{Shape}
use Rattle.persist_model.specs.State.{State, IsSoundState}
use Rattle.log_laws.specs.Moves.{MayName, IsChangeBy}
use Rattle.bucket_log.specs.declared.append.Place.{Place}
use Rattle.plan_records.specs.declared.parts.Update.{Update}
use Rattle.plan_records.specs.Cells.{cell_of_update, appended}
use Rattle.plan_records.specs.Conditions.{CanUpdate, IsUpdateOf}
use Rattle.plan_records.specs.HeapCourses.{newest, IsInStep, MayReach}

-- u's OLD is the last NEW of its transaction. Where that hasn't changed the word, it is the latest NEW that is to be redone, or else the word in h.
pub record IsOldIn (shape : Shape) (x : State) (u : Record) (h : Words) : Type 0 where
  pub own : (r : Record) → IsLatest (IsChangeBy u.transaction u.word) x.log r → u.before ≡ r.after
  pub redone : HasNo (IsChangeBy u.transaction u.word) x.log → (r : Record) → IsLatest (IsToRedo shape.policy x.log u.word) x.log r → u.before ≡ r.after
  pub plain : HasNo (IsChangeBy u.transaction u.word) x.log → HasNo (IsToRedo shape.policy x.log u.word) x.log → u.before ≡ h u.word

-- ---- the laws

-- under both policies
abbrev pub OldsMeet : Type 0
OldsMeet = (shape : Shape) (x : State) (u : Record) (h : Words) → IsSoundState shape x → IsRunning x.log u.transaction → MayName x.log u →
    u.undo_next ≡ undo_point u.transaction x.log → IsOldIn shape x u h → IsUpdateOf shape x u h

-- Under force it is enough that the lane is in step and OLD is its newest value of the word, at each prefix of the append.
abbrev pub UpdatesMeet : Type 0
UpdatesMeet = (shape : Shape) (x : State) (u : Update) (place : Place) (number : ℕ) (z : Progress) (h : Words) →
    let r = appended place number (cell_of_update u) in
    shape.policy ≢ 2 → IsSoundState shape x → CanUpdate shape x r → u.undo_next ≡ undo_point u.transaction x.log → IsInStep shape x.log u.transaction z →
    u.before ≡ newest z u.word → MayReach shape (λ a. a ≡ u.word) z h → IsUpdateOf shape x r h
