-- What stands of a transaction that has gone back, and that it goes on from there.
use Rattle.std.specs.Prelude.{◌≡◌, ◌↔◌, ℕ, ◌<◌, ◌≤◌, List, [], ◌∷◌}
use Rattle.persist_model.specs.Region.{Words}
use Rattle.persist_model.specs.Progress.{Reaches, start, advance_all}
use Rattle.persist_model.specs.Records.{Record, Log, IsAmong, Has, HasNo, IsOf, IsRollback, IsRunning}
use Rattle.persist_model.specs.Order.{undo_point, last_new}
use Rattle.persist_model.specs.Need.{to_undo}
use Rattle.persist_model.specs.Shape.{Shape, heap}
use Rattle.persist_model.specs.State.{State, IsSoundState}
use Rattle.persist_model.specs.Sound.{HasState}
use Rattle.persist_model.specs.declared.kinds.Outcome.TheVariants.{Committed, RolledBack}
use Rattle.log_laws.specs.Closing.{IsSublog}
use Rattle.log_laws.specs.Recovery.{KeepsStanding}
use Rattle.log_laws.specs.MoveRoom.{HasItsCells}
use Rattle.region_layout.specs.declared.cell.Cell.{Cell}
use Rattle.region_layout.specs.declared.layout.Policy.{Policy}
use Rattle.region_layout.specs.RecordCells.{cell_of_end}
use Rattle.bucket_log.specs.declared.append.Place.{Place}
use Rattle.log_clearing.specs.Plans.{closing_plan}
use Rattle.plan_records.specs.Cells.{appended}
use Rattle.plan_records.specs.Appends.{MayAppend, AppendKeeps, AppendCommits, seen}
use Rattle.plan_records.specs.Conditions.{AreLast, AreWritten}
use Rattle.plan_records.specs.Courses.{IsGoing, AreGiven, CanCommit, AreCellsOf, CanAbort}
use Rattle.save_point.specs.Conditions.{CanGoBack, IsDeletionOf, AreOwnDeletions, Undoes}

-- the number of the newest of these, or 0
abbrev pub top_number : Log → ℕ
top_number [] = 0
top_number (u ∷ updates) = u.lsn

-- Behind the going back t runs as before. What it would undo is what is left, with its undo point; its deletions are those before without
-- the closed ones.
pub record HasGoneBack (shape : Shape) (p t : ℕ) (before : Log) (gates : List ℕ) (left log : Log) : Type 0 where
  pub going : IsGoing shape p t log
  pub not_rolled : HasNo (λ x. IsOf t x × IsRollback x) log
  pub undo : to_undo t log ≡ left
  pub point : undo_point t log ≡ top_number left
  pub deletions : (d : Record) → IsDeletionOf t d → IsAmong log d ↔ (IsAmong before d × (IsAmong gates d.at → ⊥))

-- The image v is sound, with the standing words of x and its own heap words, and t has gone back in it. Its records are those of x but for
-- the closed deletions, and it has no less room.
pub record IsBackIn (shape : Shape) (p t : ℕ) (before : Log) (gates : List ℕ) (left : Log) (x : State) (v : Words) : Type 0 where
  pub state : State
  pub has : HasState shape v state
  pub sound : IsSoundState shape state
  pub standing : KeepsStanding shape.policy (seen shape v x) state
  pub back : HasGoneBack shape p t before gates left state.log
  pub part : IsSublog (λ d. IsDeletionOf t d × IsAmong gates d.at) state.log x.log
  pub no_less : (q : ℕ) → x.room q ≤ state.room q

-- ---- the laws

-- Behind the undo t has gone back but for its deletions, and behind the closing with them.
pub record BacksEnd : Type 0 where
  pub undone : (policy : Policy) (shape : Shape) (p t : ℕ) (s : State) (updates : List Cell) (left : Log) (x : State) → IsSoundState shape s →
      CanGoBack shape p t s.log updates left → Undoes policy shape p t s updates [] x → HasGoneBack shape p t s.log [] left x.log
  pub closed : (policy : Policy) (shape : Shape) (p t : ℕ) (s : State) (updates : List Cell) (left : Log) (gates : List ℕ) (x : State) (w v : Words) →
      shape.partitions ≤ 3 → IsSoundState shape s → CanGoBack shape p t s.log updates left → AreOwnDeletions t s.log gates →
      Undoes policy shape p t s updates [] x → HasState shape w x → IsSoundState shape x →
      Reaches (λ a. a < heap shape) (advance_all (start w) (closing_plan gates [] [])) v → IsBackIn shape p t s.log gates left x v

-- Where what is left is what t would have undone in the state there, as at a savepoint, its undo point is that one's, and each word that is
-- left to undo has the last NEW that it had there.
pub record BacksAreThere : Type 0 where
  pub point : (shape : Shape) (p t : ℕ) (there : State) (before : Log) (gates : List ℕ) (log : Log) → IsSoundState shape there → IsRunning there.log t →
      HasGoneBack shape p t before gates (to_undo t there.log) log → undo_point t log ≡ undo_point t there.log
  pub last : (shape : Shape) (p t : ℕ) (there : State) (before : Log) (gates : List ℕ) (y : State) (a d e : ℕ) → IsSoundState shape there → IsRunning there.log t →
      IsSoundState shape y → HasGoneBack shape p t before gates (to_undo t there.log) y.log → Has (λ u. u.word ≡ a) (to_undo t there.log) →
      last_new t a d y.log ≡ last_new t a e there.log

-- It may commit, with the blocks that it still gives back, or abort, with the updates that are left. Its end comes with the cells that are
-- kept for it, also where all its records were closed.
pub record BacksMayEnd : Type 0 where
  pub commits : (shape : Shape) (p t : ℕ) (before : Log) (gates : List ℕ) (left log : Log) (owners : List ℕ) → HasGoneBack shape p t before gates left log →
      AreGiven t log owners → CanCommit shape p t log owners
  pub aborts : (shape : Shape) (p t : ℕ) (before : Log) (gates : List ℕ) (left log : Log) (updates : List Cell) → HasGoneBack shape p t before gates left log →
      AreCellsOf updates left → CanAbort shape p t log updates
  pub committed : (shape : Shape) (p t : ℕ) (before : Log) (gates : List ℕ) (left : Log) (w : Words) (y : State) (chain : List ℕ) (place : Place) (number : ℕ) →
      let e = appended place number (cell_of_end t Committed) in
      HasGoneBack shape p t before gates left y.log → MayAppend shape p w y chain place e → HasItsCells shape y e 1 →
      AppendCommits shape p w y place e (AreWritten shape y t)
  pub aborted : (shape : Shape) (p t : ℕ) (before : Log) (gates : List ℕ) (w : Words) (y : State) (chain : List ℕ) (place : Place) (number : ℕ) →
      let e = appended place number (cell_of_end t RolledBack) in
      HasGoneBack shape p t before gates [] y.log → MayAppend shape p w y chain place e → HasItsCells shape y e 1 →
      AppendKeeps shape p w y place e (AreLast shape y t)
