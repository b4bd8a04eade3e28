-- A region in which recovery is at work, between its appends.
use Rattle.std.specs.Prelude.{◌≡◌, ◌≤◌, ◌<◌, ℕ, List, [], ◌∷◌, slice_index}
pub use Rattle.persist_model.specs.declared.format.TheConstants.{RECOVERY_LANE}
use Rattle.persist_model.specs.Region.{Words, Region, IsImage, after}
use Rattle.persist_model.specs.Progress.{Progress, Wrote, Tracks}
use Rattle.persist_model.specs.declared.event.Event.{Event}
use Rattle.persist_model.specs.declared.event.Event.TheVariants.{Store, PStore, WriteBack, Fence}
use Rattle.persist_model.specs.Shape.{Shape, heap, words_of_shape}
use Rattle.persist_model.specs.State.{State, IsSoundState}
use Rattle.log_laws.specs.Recovery.{HasDecidingRecord, Steps, KeepsStanding}
use Rattle.persist_model.specs.Sound.{HasState}

-- The durable words are w, whose state is s: nothing is pending for the log, and for the heap only values of covered words.
pub record IsAtRest (shape : Shape) (p : Progress) (w : Words) (s : State) : Type 0 where
  pub state : HasState shape w s
  pub durable : (a : ℕ) → a < words_of_shape shape → p.durable a ≡ w a
  pub log : (a : ℕ) → a < heap shape → (v : ℕ) → Wrote p.pending a v → ⊥
  pub heap : (a : ℕ) → heap shape ≤ a → (v : ℕ) → Wrote p.pending a v → HasDecidingRecord shape.policy s.log a

-- Recovery began at the state first, and has come to a state at rest.
pub record IsRecovering (shape : Shape) (first : State) (region : Region) : Type 0 where
  pub size : region.size ≡ words_of_shape shape
  pub progress : Progress
  pub words : Words
  pub state : State
  pub tracks : Tracks (λ a. a < words_of_shape shape) RECOVERY_LANE progress region
  pub rest : IsAtRest shape progress words state
  pub steps : Steps shape first state

-- Each image is sound, with the standing values with which recovery began: whatever a stop leaves can be recovered again.
abbrev pub EachImageKeeps : Type 0
EachImageKeeps = (shape : Shape) (first : State) (region : Region) (words : List ℕ) → IsSoundState shape first → IsRecovering shape first region → IsImage words region →
    (x : State) × HasState shape (slice_index words) x × IsSoundState shape x × KeepsStanding shape.policy first x

-- A store of recovery to a heap word whose standing value a record decides, and a fence of recovery, go on with it.
abbrev pub StoresGoOn : Type 0
StoresGoOn = (shape : Shape) (first : State) (region : Region) (a v : ℕ) → (h : IsRecovering shape first region) → heap shape ≤ a →
    HasDecidingRecord shape.policy h.state.log a → IsRecovering shape first (after region RECOVERY_LANE (PStore a v))

abbrev pub FencesGoOn : Type 0
FencesGoOn = (shape : Shape) (first : State) (region : Region) → IsRecovering shape first region → IsRecovering shape first (after region RECOVERY_LANE Fence)

-- the state with other heap words
abbrev pub with_heap : State → Words → State
with_heap s h = record { log = s.log; words = h; room = s.room }

-- the event stores to no heap word
abbrev pub IsOnLog : Shape → Event → Type 0
IsOnLog shape (Store a v) = a < heap shape
IsOnLog shape (PStore a v) = a < heap shape
IsOnLog shape (WriteBack a) = a < heap shape
IsOnLog shape Fence = Unit {0}

abbrev pub AreOnLog : Shape → List Event → Type 0
AreOnLog shape [] = Unit {0}
AreOnLog shape (e ∷ events) = IsOnLog shape e × AreOnLog shape events
