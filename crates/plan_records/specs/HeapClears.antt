-- What is deleted where a transaction's records are cleared.
use Rattle.std.specs.Prelude.{◌≡◌, ℕ, List, ◌∷◌}
use Rattle.persist_model.specs.Region.{Words}
use Rattle.persist_model.specs.Progress.{Progress}
use Rattle.persist_model.specs.Records.{Log, IsAmong, Has}
use Rattle.persist_model.specs.Shape.{Shape}
use Rattle.persist_model.specs.State.{State, IsSoundState}
use Rattle.log_laws.specs.Moves.{IsDeletionBy}
use Rattle.region_layout.specs.declared.cell.Cell.{Cell}
use Rattle.region_layout.specs.declared.layout.Policy.TheVariants.{Force}
use Rattle.plan_records.specs.declared.parts.Part.{Part}
use Rattle.plan_records.specs.declared.parts.Part.TheVariants.{Clear}
use Rattle.plan_records.specs.Courses.{AreDeleted, CanCommit, CanAbort, commit_parts, abort_parts}
use Rattle.plan_records.specs.HeapCourses.{Goes, MayReach}

-- The owners are all the words of t's deletions.
abbrev pub AreAllGiven : ℕ → Log → List ℕ → Type 0
AreAllGiven t log owners = (a : ℕ) → Has (IsDeletionBy t a) log → IsAmong owners a

-- Where a transaction's records are to be cleared under force, its owner words are 0 behind a commit, so what it deleted is 0 where the
-- owners are all its deletions'; behind an undo nothing is asked of the words.
pub record ClearsMeet : Type 0 where
  pub zero : (shape : Shape) (p t : ℕ) (s : State) (owners : List ℕ) (q : Progress) (rest : List Part) (x : State) (z : Progress) (h : Words) →
      IsSoundState shape s → CanCommit shape p t s.log owners → Goes shape p t s (commit_parts Force t owners) q (Clear ∷ rest) x z →
      MayReach shape (IsAmong owners) z h → (a : ℕ) → IsAmong owners a → h a ≡ 0
  pub committed : (shape : Shape) (p t : ℕ) (s : State) (owners : List ℕ) (q : Progress) (rest : List Part) (x : State) (z : Progress) (h : Words) →
      IsSoundState shape s → CanCommit shape p t s.log owners → AreAllGiven t s.log owners →
      Goes shape p t s (commit_parts Force t owners) q (Clear ∷ rest) x z → MayReach shape (IsAmong owners) z h → AreDeleted x.log t h
  pub undone : (shape : Shape) (p t : ℕ) (s : State) (updates : List Cell) (q : Progress) (rest : List Part) (x : State) (z : Progress) (h : Words) →
      CanAbort shape p t s.log updates → Goes shape p t s (abort_parts Force t updates) q (Clear ∷ rest) x z → AreDeleted x.log t h
