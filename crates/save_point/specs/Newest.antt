-- The newest values of the words, as the lane that goes back has stored them.
use Rattle.std.specs.Prelude.{◌≡◌, ℕ, ◌≤◌, ◌==◌, if◌then◌else◌, List, [], ◌∷◌}
use Rattle.persist_model.specs.declared.event.Event.{Event}
use Rattle.persist_model.specs.declared.event.Event.TheVariants.{Store, PStore, WriteBack, Fence}
use Rattle.persist_model.specs.Progress.{Progress, advance_all}
use Rattle.persist_model.specs.Records.{Log}
use Rattle.persist_model.specs.Order.{last_new}
use Rattle.persist_model.specs.Shape.{Shape, heap}
use Rattle.persist_model.specs.State.{State, IsSoundState}
use Rattle.persist_model.specs.Sound.{HasState}
use Rattle.persist_model.specs.Region.{Words}
use Rattle.log_laws.specs.Closing.{IsSublog}
use Rattle.region_layout.specs.declared.cell.Cell.{Cell}
use Rattle.region_layout.specs.declared.layout.Policy.{Policy}
use Rattle.region_layout.specs.declared.layout.Policy.TheVariants.{Force}
use Rattle.log_clearing.specs.Plans.{closing_plan}
use Rattle.plan_records.specs.Sequences.{undo_parts}
use Rattle.plan_records.specs.Others.{word_events}
use Rattle.plan_records.specs.HeapCourses.{newest, IsInStep, Goes}
use Rattle.save_point.specs.Conditions.{CanGoBack, IsDeletionOf, AreOwnDeletions, Undoes}

-- what a word with this value has when the updates are undone: the OLD of the last of them that names it
abbrev pub undone_value : List Cell → ℕ → ℕ → ℕ
undone_value [] a v = v
undone_value (u ∷ updates) a v = undone_value updates a (if u.word == a then u.before else v)

-- the newest value of a word behind these writes, the last of which comes first; before has the values without them
abbrev pub written_value : List Cell → (ℕ → ℕ) → ℕ → ℕ
written_value [] before a = before a
written_value (u ∷ updates) before a = if u.word == a then u.after else written_value updates before a

-- the OLD of each write is the newest value before it
abbrev pub AreWrites : List Cell → (ℕ → ℕ) → Type 0
AreWrites [] before = Unit {0}
AreWrites (u ∷ updates) before = (u.before ≡ written_value updates before u.word) × AreWrites updates before

-- the newest value of a word behind these events on it
abbrev pub stored_value : List Event → ℕ → ℕ → ℕ
stored_value [] a v = v
stored_value (Store b u ∷ es) a v = stored_value es a (if b == a then u else v)
stored_value (PStore b u ∷ es) a v = stored_value es a (if b == a then u else v)
stored_value (WriteBack b ∷ es) a v = stored_value es a v
stored_value (Fence ∷ es) a v = stored_value es a v

-- To undo the writes since a savepoint leaves each word as it was there.
abbrev pub UndoingRestores : Type 0
UndoingRestores = (updates : List Cell) (before : ℕ → ℕ) (a : ℕ) → AreWrites updates before → undone_value updates a (written_value updates before a) ≡ before a

-- Under both policies each word has its value of before the updates, and no other word is stored to.
abbrev pub StoresUndo : Type 0
StoresUndo = (policy : Policy) (updates : List Cell) (a v : ℕ) → stored_value (word_events (undo_parts policy updates)) a v ≡ undone_value updates a v

-- The last NEW of each word, by the records, is the one of before the updates too, and no deletion is one.
pub record RecordsUndo : Type 0 where
  pub undone : (policy : Policy) (shape : Shape) (p t : ℕ) (s : State) (updates : List Cell) (left : Log) (x : State) (a d : ℕ) →
      CanGoBack shape p t s.log updates left → Undoes policy shape p t s updates [] x → last_new t a d x.log ≡ undone_value updates a (last_new t a d s.log)
  pub closed : (t u a d : ℕ) (later log : Log) → IsSublog (IsDeletionOf t) later log → last_new u a d later ≡ last_new u a d log

-- Under force the lane is in step behind the undo, with these values, whatever others did; and the closing of deletions keeps both.
pub record BacksSettle : Type 0 where
  pub in_step : (shape : Shape) (p t : ℕ) (s : State) (updates : List Cell) (left : Log) (q : Progress) (x : State) (z : Progress) → IsSoundState shape s →
      CanGoBack shape p t s.log updates left → IsInStep shape s.log t q → Goes shape p t s (undo_parts Force updates) q [] x z → IsInStep shape x.log t z
  pub values : (shape : Shape) (p t : ℕ) (s : State) (updates : List Cell) (q : Progress) (x : State) (z : Progress) (a : ℕ) → heap shape ≤ a →
      Goes shape p t s (undo_parts Force updates) q [] x z → newest z a ≡ undone_value updates a (newest q a)
  pub closings : (shape : Shape) (t : ℕ) (x : State) (later : Log) (w : Words) (gates : List ℕ) (z : Progress) → HasState shape w x → IsSoundState shape x →
      AreOwnDeletions t x.log gates → IsSublog (IsDeletionOf t) later x.log → IsInStep shape x.log t z → IsInStep shape later t (advance_all z (closing_plan gates [] []))
  pub closings_values : (shape : Shape) (t : ℕ) (x : State) (w : Words) (gates : List ℕ) (z : Progress) (a : ℕ) → HasState shape w x → AreOwnDeletions t x.log gates →
      heap shape ≤ a → newest (advance_all z (closing_plan gates [] [])) a ≡ newest z a
