-- The removal of a closed bucket of one partition, in the form of states.
use Rattle.std.specs.Prelude.{◌≢◌, ◌⊎◌, ℕ, ◌+◌, ◌<◌, ◌≤◌, ◌==◌, if◌then◌else◌, List, length, map}
use Rattle.persist_model.specs.declared.event.Event.{Event}
use Rattle.persist_model.specs.Region.{Words}
use Rattle.persist_model.specs.Progress.{Reaches}
use Rattle.persist_model.specs.Runs.{progress_at}
use Rattle.persist_model.specs.Shape.{Shape, heap, heap_words, log_words}
use Rattle.persist_model.specs.Chain.{view, out_event}
use Rattle.persist_model.specs.State.{State, IsSoundState}
use Rattle.persist_model.specs.Sound.{IsClosedBucket, HasState}
use Rattle.log_laws.specs.Parts.{AreDurable}
use Rattle.log_laws.specs.Recovery.{KeepsStanding}
use Rattle.log_laws.specs.Recovering.{with_heap, AreOnLog}
use Rattle.atomic_list.specs.declared.plans.Remove.{Remove}
use Rattle.atomic_list.specs.Plans.{removal}
use Rattle.atomic_list.specs.Rules.{IsAtRest}
use Rattle.atomic_list.specs.Removal.{CanRemove}
use Rattle.region_layout.specs.Layout.{IsAllowed}
use Rattle.log_clearing.specs.Dropping.{IsFirstClosed}

-- The partition's list is at rest, and the removal's bucket stands in its chain between its two neighbours, isn't the last, and has only closed gates.
pub record CanDrop (shape : Shape) (p : ℕ) (w : Words) (r : Remove) : Type 0 where
  pub front : List ℕ
  pub rest : List ℕ
  pub can_remove : CanRemove shape p w front rest r
  pub not_last : r.next ≢ 0
  pub closed : IsClosedBucket shape w r.node

-- the events of the removal on the region
abbrev pub region_removal : ℕ → Remove → List Event
region_removal p r = map (out_event p) (removal r)

-- so many cells more in a partition
abbrev pub more_room : ℕ → ℕ → (ℕ → ℕ) → ℕ → ℕ
more_room p cells room q = if q == p then room q + cells else room q

-- the state with another room and other heap words
abbrev pub with_room : State → (ℕ → ℕ) → Words → State
with_room s room h = record { log = s.log; words = h; room = room }

-- Each image of each prefix has the records before, with the room before or this one; the last has this one.
pub record IsDrop (shape : Shape) (w : Words) (s : State) (room : ℕ → ℕ) (plan : List Event) : Type 0 where
  pub on_log : AreOnLog shape plan
  pub durable : AreDurable plan
  pub images : (k : ℕ) (v : Words) → Reaches (λ a. a < heap shape) (progress_at w plan k) v →
      HasState shape v (with_heap s (heap_words shape v)) ⊎ HasState shape v (with_room s room (heap_words shape v))
  pub last : (v : Words) → Reaches (λ a. a < heap shape) (progress_at w plan (length plan)) v → HasState shape v (with_room s room (heap_words shape v))

-- ---- the laws

-- the removal that is read may be made
abbrev pub ReadRemovalsMayBeMade : Type 0
ReadRemovalsMayBeMade = (shape : Shape) (p : ℕ) (w : Words) (chain : List ℕ) (r : Remove) → IsAtRest shape p w chain → IsFirstClosed shape w chain r → CanDrop shape p w r

-- a removal keeps the records, and leaves the cells of a bucket more room in its partition
abbrev pub RemovalsAreStates : Type 0
RemovalsAreStates = (shape : Shape) (p : ℕ) (z : Words) (s : State) (r : Remove) → IsAllowed shape → p < shape.partitions → HasState shape z s →
    CanDrop shape p (view p (log_words shape z)) r → IsDrop shape z s (more_room p shape.cells s.room) (region_removal p r)

-- more room keeps a state sound, with its standing words
abbrev pub RoomKeeps : Type 0
RoomKeeps = (shape : Shape) (s : State) (room : ℕ → ℕ) (h : Words) → IsSoundState shape s → ((p : ℕ) → s.room p ≤ room p) →
    IsSoundState shape (with_room s room h) × KeepsStanding shape.policy (with_heap s h) (with_room s room h)
