-- An append as a part of recovery.
use Rattle.std.specs.Prelude.{◌≡◌, ◌⊎◌, ℕ, ◌<◌, List, [], ◌∷◌, ◌++◌, length}
use Rattle.persist_model.specs.declared.event.Event.{Event}
use Rattle.persist_model.specs.declared.event.Event.TheVariants.{Fence}
use Rattle.persist_model.specs.Region.{Words}
use Rattle.persist_model.specs.Progress.{Reaches}
use Rattle.persist_model.specs.Runs.{progress_at}
use Rattle.persist_model.specs.Records.{Record}
use Rattle.persist_model.specs.Shape.{Shape, heap, heap_words}
use Rattle.persist_model.specs.State.{State}
use Rattle.log_laws.specs.Recovery.{Step, grown}
use Rattle.persist_model.specs.Sound.{HasState}
use Rattle.log_laws.specs.Recovering.{with_heap, AreOnLog}
use Rattle.log_laws.specs.Parts.{AreDurable}

-- Each image of each prefix has the log words of the state before, or of the one with the record r and one cell less room; the last has r.
pub record IsAppend (shape : Shape) (w : Words) (s : State) (r : Record) (room : ℕ → ℕ) (plan : List Event) : Type 0 where
  pub on_log : AreOnLog shape plan
  pub durable : AreDurable plan
  pub front : List Event
  pub fenced : plan ≡ front ++ Fence ∷ []
  pub images : (k : ℕ) (v : Words) → Reaches (λ a. a < heap shape) (progress_at w plan k) v →
      HasState shape v (with_heap s (heap_words shape v)) ⊎ HasState shape v (with_heap (grown s r room) (heap_words shape v))
  pub last : (v : Words) → Reaches (λ a. a < heap shape) (progress_at w plan (length plan)) v → HasState shape v (with_heap (grown s r room) (heap_words shape v))

-- The record may come, whatever the covered heap words are.
abbrev pub MayCome : Shape → State → Record → (ℕ → ℕ) → Type 0
MayCome shape s r room = (h : Words) → Step shape s (with_heap s h) → Step shape (with_heap s h) (grown (with_heap s h) r room)
