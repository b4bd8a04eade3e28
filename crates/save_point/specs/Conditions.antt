-- What is asked of a transaction that goes back.
use Rattle.std.specs.Prelude.{◌≡◌, ℕ, ◌<◌, ◌≤◌, List, ◌∷◌, ◌++◌}
use Rattle.persist_model.specs.Records.{Record, Log, IsAmong, Has, HasNo, IsOf, IsRollback, IsDeletion}
use Rattle.persist_model.specs.Shape.{Shape}
use Rattle.persist_model.specs.Need.{to_undo}
use Rattle.persist_model.specs.State.{State, IsSoundState}
use Rattle.region_layout.specs.declared.cell.Cell.{Cell}
use Rattle.region_layout.specs.declared.layout.Policy.{Policy}
use Rattle.plan_records.specs.declared.parts.Part.{Part}
use Rattle.plan_records.specs.declared.parts.Part.TheVariants.{Append}
use Rattle.plan_records.specs.Sequences.{undo_parts}
use Rattle.plan_records.specs.Courses.{Course, IsGoing, AreCellsOf}

-- t runs, all its records stand in the partition p, and none is a rollback record. The cells are those of the newest of its updates that no
-- compensation names, newest first; left has the others.
pub record CanGoBack (shape : Shape) (p t : ℕ) (log : Log) (updates : List Cell) (left : Log) : Type 0 where
  pub going : IsGoing shape p t log
  pub not_rolled : HasNo (λ x. IsOf t x × IsRollback x) log
  pub front : Log
  pub cells : AreCellsOf updates front
  pub newest : to_undo t log ≡ front ++ left

abbrev pub IsDeletionOf : ℕ → Record → Type 0
IsDeletionOf t d = IsDeletion d × (d.transaction ≡ t)

-- the gates are of deletions of t
abbrev pub AreOwnDeletions : ℕ → Log → List ℕ → Type 0
AreOwnDeletions t log gates = (a : ℕ) → IsAmong gates a → Has (λ d. (d.at ≡ a) × IsDeletionOf t d) log

-- From s the lane has made all parts of the undo but the rest, and others have gone on with theirs; the state is x.
abbrev pub Undoes : Policy → Shape → ℕ → ℕ → State → List Cell → List Part → State → Type 0
Undoes policy shape p t s updates rest x = Course shape p t s (undo_parts policy updates) rest x

-- ---- the laws

-- Where the cells of all that t would undo stand in two parts, it may go back by the first one, and the second has the cells of what is left.
abbrev pub FrontsGoBack : Type 0
FrontsGoBack = (shape : Shape) (p t : ℕ) (log : Log) (updates others : List Cell) → IsGoing shape p t log → HasNo (λ x. IsOf t x × IsRollback x) log →
    AreCellsOf (updates ++ others) (to_undo t log) → (left : Log) × CanGoBack shape p t log updates left × AreCellsOf others left

-- Each compensation has a cell: going back is never refused for room.
abbrev pub BacksHaveRoom : Type 0
BacksHaveRoom = (policy : Policy) (shape : Shape) (p t : ℕ) (s : State) (updates : List Cell) (left : Log) (cell : Cell) (rest : List Part) (x : State) →
    p < shape.partitions → CanGoBack shape p t s.log updates left → Undoes policy shape p t s updates (Append cell ∷ rest) x → IsSoundState shape x → 1 ≤ x.room p
