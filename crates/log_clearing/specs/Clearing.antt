-- The closing of records in the form of states.
use Rattle.std.specs.Prelude.{◌≡◌, ◌⊎◌, ℕ, ◌<◌, ◌≤◌, List, []}
use Rattle.persist_model.specs.Region.{Words}
use Rattle.persist_model.specs.Progress.{Progress, Reaches, start, advance_all}
use Rattle.persist_model.specs.Runs.{progress_at}
use Rattle.persist_model.specs.Records.{Record, Log, IsAmong, Has}
use Rattle.persist_model.specs.Shape.{Shape, heap, heap_words}
use Rattle.persist_model.specs.State.{State, IsSoundState}
use Rattle.persist_model.specs.Sound.{HasState}
use Rattle.log_laws.specs.Closing.{IsSublog, MayClear, IsClosedBy, IsClosing}
use Rattle.log_laws.specs.Moves.{IsDeferred}
use Rattle.log_laws.specs.Recovery.{KeepsStanding}
use Rattle.log_laws.specs.Recovering.{with_heap}
use Rattle.log_clearing.specs.Plans.{closing_plan}
use Rattle.log_clearing.specs.Closed.{AreGroups, IsListed}

-- v has some of the listed records closed, each as it may be with v's own heap words. It is sound, with the standing words of the records before
-- and these heap words, and no less room.
pub record IsClearing (shape : Shape) (v : Words) (s : State) (gates ends checkpoints : List ℕ) : Type 0 where
  pub state : State
  pub has : HasState shape v state
  pub sound : IsSoundState shape state
  pub keeps : KeepsStanding shape.policy (with_heap s (heap_words shape v)) state
  pub part : IsClosedBy (IsListed gates ends checkpoints) s.log state.log
  pub closing : IsClosing shape.policy s.log (heap_words shape v) state.log
  pub no_less : (p : ℕ) → s.room p ≤ state.room p

-- v has all of the listed records closed, and no others.
pub record IsCleared (shape : Shape) (v : Words) (s : State) (gates ends checkpoints : List ℕ) : Type 0 where
  pub state : State
  pub has : HasState shape v state
  pub closed : (r : Record) → IsAmong state.log r → IsListed gates ends checkpoints r → ⊥
  pub stays : (r : Record) → IsAmong s.log r → (IsListed gates ends checkpoints r → ⊥) → IsAmong state.log r

-- what a whole closing leaves of the words
pub record ClosingLeaves (w : Words) (gates ends checkpoints : List ℕ) (progress : Progress) : Type 0 where
  pub nothing_pending : progress.pending ≡ []
  pub closed : (a : ℕ) → IsAmong gates a ⊎ IsAmong ends a ⊎ IsAmong checkpoints a → progress.durable a ≡ 0
  pub others : (a : ℕ) → (IsAmong gates a ⊎ IsAmong ends a ⊎ IsAmong checkpoints a → ⊥) → progress.durable a ≡ w a

-- these gates are of deletions of running transactions
abbrev pub AreDeferred : Log → List ℕ → Type 0
AreDeferred log gates = (a : ℕ) → IsAmong gates a → Has (λ d. (d.at ≡ a) × IsDeferred log d) log

-- v has some of these deletions closed. It is sound, with the standing words of the records before and its own heap words, and no less room.
pub record IsDropping (shape : Shape) (v : Words) (s : State) (gates : List ℕ) : Type 0 where
  pub state : State
  pub has : HasState shape v state
  pub sound : IsSoundState shape state
  pub keeps : KeepsStanding shape.policy (with_heap s (heap_words shape v)) state
  pub part : IsSublog (λ d. IsDeferred s.log d × IsAmong gates d.at) state.log s.log
  pub no_less : (p : ℕ) → s.room p ≤ state.room p

-- ---- the laws

-- At each prefix of a closing each image is sound, with the same standing words. The heap words are any with which the records may be cleared.
abbrev pub ClosingsKeep : Type 0
ClosingsKeep = (shape : Shape) (w v : Words) (s : State) (gates ends checkpoints : List ℕ) (k : ℕ) → shape.partitions ≤ 3 → HasState shape w s → IsSoundState shape s →
    AreGroups s.log gates ends checkpoints → MayClear shape.policy s.log (heap_words shape v) (IsListed gates ends checkpoints) →
    Reaches (λ a. a < heap shape) (progress_at w (closing_plan gates ends checkpoints) k) v → IsClearing shape v s gates ends checkpoints

-- So it is where deletions of running transactions are closed, as by one that goes back to a savepoint: they decide no word yet.
abbrev pub DroppingsKeep : Type 0
DroppingsKeep = (shape : Shape) (w v : Words) (s : State) (gates : List ℕ) (k : ℕ) → shape.partitions ≤ 3 → HasState shape w s → IsSoundState shape s →
    AreDeferred s.log gates → Reaches (λ a. a < heap shape) (progress_at w (closing_plan gates [] []) k) v → IsDropping shape v s gates

-- The whole of a closing has the listed records closed,
abbrev pub ClosingsClear : Type 0
ClosingsClear = (shape : Shape) (w v : Words) (s : State) (gates ends checkpoints : List ℕ) → shape.partitions ≤ 3 → HasState shape w s →
    AreGroups s.log gates ends checkpoints → Reaches (λ a. a < heap shape) (advance_all (start w) (closing_plan gates ends checkpoints)) v →
    IsCleared shape v s gates ends checkpoints

-- and its words are settled.
abbrev pub ClosingsEnd : Type 0
ClosingsEnd = (w : Words) (gates ends checkpoints : List ℕ) → ClosingLeaves w gates ends checkpoints (advance_all (start w) (closing_plan gates ends checkpoints))
