-- What stands beside a course: what others do, where its records stand, and what its deletions leave.
use Rattle.std.specs.Prelude.{◌≡◌, ℕ, List, [], ◌∷◌}
use Rattle.persist_model.specs.declared.event.Event.{Event}
use Rattle.persist_model.specs.declared.event.Event.TheVariants.{Fence}
use Rattle.persist_model.specs.Region.{Words}
use Rattle.persist_model.specs.Progress.{Progress, advance_all}
use Rattle.persist_model.specs.Records.{Record, Log, IsAmong, Has, IsOf, IsRunning}
use Rattle.persist_model.specs.Shape.{Shape, part_of}
use Rattle.persist_model.specs.State.{State}
use Rattle.log_laws.specs.Closing.{IsClosedBy}
use Rattle.log_laws.specs.Moves.{IsDeletionBy}
use Rattle.bucket_log.specs.declared.append.Place.{Place}
use Rattle.plan_records.specs.declared.parts.Part.{Part}
use Rattle.plan_records.specs.declared.parts.Part.TheVariants.{Append, Word, Fence as Wait, Clear}
use Rattle.log_clearing.specs.Closed.{IsListed}
use Rattle.persist_model.specs.declared.kinds.Outcome.TheVariants.{Committed, RolledBack}
use Rattle.plan_records.specs.Cells.{appended}
use Rattle.region_layout.specs.RecordCells.{cell_of_end}
use Rattle.plan_records.specs.Sequences.{owner_parts}
use Rattle.plan_records.specs.Passing.{inserted}
use Rattle.plan_records.specs.Appends.{MayAppend}
use Rattle.plan_records.specs.Courses.{own_records, AreDeleted}

-- An append of another transaction's record, and a closing of others' records, keep the records of t.
pub record OthersKeepOwn : Type 0 where
  pub appends : (t : ℕ) (log : Log) (r : Record) → (IsOf t r → ⊥) → own_records t (inserted r log) ≡ own_records t log
  pub closes : (t : ℕ) (log later : Log) (gates ends checkpoints : List ℕ) → IsClosedBy (IsListed gates ends checkpoints) log later →
      ((r : Record) → IsAmong log r → IsListed gates ends checkpoints r → IsOf t r → ⊥) → own_records t later ≡ own_records t log

-- a record that may be appended in a partition stands there
abbrev pub AppendsStandInPart : Type 0
AppendsStandInPart = (shape : Shape) (p : ℕ) (w : Words) (s : State) (chain : List ℕ) (place : Place) (r : Record) → MayAppend shape p w s chain place r → part_of shape r.at ≡ p

-- Behind the end of a commit what t deleted is 0, where the owner words of its deletions are; behind that of an undo, in any words.
pub record EndsLeaveDeleted : Type 0 where
  pub committed : (t : ℕ) (log : Log) (place : Place) (number : ℕ) (h : Words) → ((a : ℕ) → Has (IsDeletionBy t a) log → h a ≡ 0) →
      AreDeleted (inserted (appended place number (cell_of_end t Committed)) log) t h
  pub undone : (t : ℕ) (log : Log) (place : Place) (number : ℕ) (h : Words) → IsRunning log t →
      AreDeleted (inserted (appended place number (cell_of_end t RolledBack)) log) t h

-- the events of parts that aren't on the log
abbrev pub word_events : List Part → List Event
word_events [] = []
word_events (Append cell ∷ parts) = word_events parts
word_events (Word e ∷ parts) = e ∷ word_events parts
word_events (Wait ∷ parts) = Fence ∷ word_events parts
word_events (Clear ∷ parts) = word_events parts

-- The parts of deletions leave each owner word durably 0, and nothing pending.
pub record OwnersAreZero : Type 0 where
  pub zero : (q : Progress) (owners : List ℕ) (a : ℕ) → IsAmong owners a → (advance_all q (word_events (owner_parts owners))).durable a ≡ 0
  pub kept : (q : Progress) (owners : List ℕ) (a : ℕ) → IsAmong owners a → (advance_all q (word_events (owner_parts owners))).pending ≡ []
