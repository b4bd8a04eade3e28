-- What going back leaves to a stop.
use Rattle.std.specs.Prelude.{◌≡◌, ◌⊎◌, ℕ, ◌≤◌, List, [], ◌∷◌}
use Rattle.persist_model.specs.declared.event.Event.{Event}
use Rattle.persist_model.specs.declared.event.Event.TheVariants.{Store, PStore, WriteBack, Fence}
use Rattle.persist_model.specs.Region.{Words}
use Rattle.persist_model.specs.Records.{Log, HasNo, IsOf, IsRollback, IsRunning}
use Rattle.persist_model.specs.Shape.{Shape}
use Rattle.persist_model.specs.State.{State, IsSoundState}
use Rattle.persist_model.specs.Sound.{HasState}
use Rattle.log_laws.specs.Recovery.{KeepsStanding}
use Rattle.region_layout.specs.declared.cell.Cell.{Cell}
use Rattle.region_layout.specs.declared.layout.Policy.{Policy}
use Rattle.bucket_log.specs.declared.append.Place.{Place}
use Rattle.bucket_log.specs.Appends.{region_append}
use Rattle.region_layout.specs.Layout.{IsAllowed}
use Rattle.bucket_log.specs.PartWords.{AreOnPart}
use Rattle.log_clearing.specs.Plans.{closing_plan}
use Rattle.log_clearing.specs.Clearing.{AreDeferred}
use Rattle.plan_records.specs.declared.parts.Part.{Part}
use Rattle.plan_records.specs.declared.parts.Part.TheVariants.{Append, Word}
use Rattle.plan_records.specs.Cells.{appended}
use Rattle.plan_records.specs.Sequences.{undo_parts}
use Rattle.plan_records.specs.Appends.{MayAppend, MayStandAt, seen}
use Rattle.plan_records.specs.Courses.{GoesOn, IsGoing}
use Rattle.save_point.specs.Conditions.{CanGoBack, AreOwnDeletions, Undoes}

-- The image v is sound, with the standing words of s, and t has neither an end nor a rollback record in it.
pub record IsOpenImage (shape : Shape) (t : ℕ) (s : State) (v : Words) : Type 0 where
  pub state : State
  pub has : HasState shape v state
  pub sound : IsSoundState shape state
  pub standing : KeepsStanding shape.policy s state
  pub running : IsRunning state.log t
  pub not_rolled : HasNo (λ x. IsOf t x × IsRollback x) state.log

-- the event leaves this value in this word
abbrev pub IsStoreOf : Event → ℕ → ℕ → Type 0
IsStoreOf (Store b u) a v = (a ≡ b) × (v ≡ u)
IsStoreOf (PStore b u) a v = (a ≡ b) × (v ≡ u)
IsStoreOf (WriteBack b) a v = ⊥
IsStoreOf Fence a v = ⊥

-- v is w with or without what the event stores
abbrev pub IsStoredIn : Event → Words → Words → Type 0
IsStoredIn e w v = (a : ℕ) → (v a ≡ w a) ⊎ IsStoreOf e a (v a)

-- ---- the laws

-- Wherever the lane has come in the undo, its next part may begin.
abbrev pub BacksGoOn : Type 0
BacksGoOn = (policy : Policy) (shape : Shape) (p t : ℕ) (s : State) (updates : List Cell) (left : Log) → CanGoBack shape p t s.log updates left →
    GoesOn shape p t s (undo_parts policy updates)

-- Wherever it has come, t runs and has no rollback record.
pub record BacksStayOpen : Type 0 where
  pub running : (policy : Policy) (shape : Shape) (p t : ℕ) (s : State) (updates : List Cell) (left : Log) (rest : List Part) (x : State) →
      CanGoBack shape p t s.log updates left → Undoes policy shape p t s updates rest x → IsRunning x.log t
  pub not_rolled : (policy : Policy) (shape : Shape) (p t : ℕ) (s : State) (updates : List Cell) (left : Log) (rest : List Part) (x : State) →
      CanGoBack shape p t s.log updates left → Undoes policy shape p t s updates rest x → HasNo (λ y. IsOf t y × IsRollback y) x.log

-- The deletions stay those of t, which decide no word yet, and their closing stores to words of t's partition alone.
pub record GatesServe : Type 0 where
  pub own : (policy : Policy) (shape : Shape) (p t : ℕ) (s : State) (updates : List Cell) (left : Log) (gates : List ℕ) (rest : List Part) (x : State) →
      CanGoBack shape p t s.log updates left → AreOwnDeletions t s.log gates → Undoes policy shape p t s updates rest x → AreOwnDeletions t x.log gates
  pub deferred : (t : ℕ) (log : Log) (gates : List ℕ) → IsRunning log t → AreOwnDeletions t log gates → AreDeferred log gates
  pub on_part : (shape : Shape) (p t : ℕ) (w : Words) (x : State) (gates : List ℕ) → IsAllowed shape → HasState shape w x → IsGoing shape p t x.log →
      AreOwnDeletions t x.log gates → AreOnPart shape p (closing_plan gates [] [])

-- So each image is sound, with the same standing words, and t has neither an end nor a rollback record in it: at each prefix of a
-- compensation's append, before and behind each store, and at each prefix of the closing of deletions.
pub record BacksKeep : Type 0 where
  pub appends : (policy : Policy) (shape : Shape) (p t : ℕ) (s : State) (updates : List Cell) (left : Log) (cell : Cell) (rest : List Part) (x : State)
      (w : Words) (chain : List ℕ) (place : Place) (number k : ℕ) (v : Words) → CanGoBack shape p t s.log updates left →
      Undoes policy shape p t s updates (Append cell ∷ rest) x → MayAppend shape p w x chain place (appended place number cell) →
      MayStandAt shape w (region_append shape p place (appended place number cell)) k v → IsOpenImage shape t (seen shape v x) v
  pub stores : (policy : Policy) (shape : Shape) (p t : ℕ) (s : State) (updates : List Cell) (left : Log) (e : Event) (rest : List Part) (x : State)
      (w v : Words) → CanGoBack shape p t s.log updates left → Undoes policy shape p t s updates (Word e ∷ rest) x →
      HasState shape w (seen shape w x) → IsSoundState shape x → IsStoredIn e w v → IsOpenImage shape t (seen shape w x) v
  pub closes : (policy : Policy) (shape : Shape) (p t : ℕ) (s : State) (updates : List Cell) (left : Log) (gates : List ℕ) (x : State)
      (w : Words) (k : ℕ) (v : Words) → shape.partitions ≤ 3 → CanGoBack shape p t s.log updates left → AreOwnDeletions t s.log gates →
      Undoes policy shape p t s updates [] x → HasState shape w x → IsSoundState shape x →
      MayStandAt shape w (closing_plan gates [] []) k v → IsOpenImage shape t (seen shape v x) v
