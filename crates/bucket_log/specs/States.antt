-- An append in the form of states.
use Rattle.std.specs.Prelude.{◌≡◌, ◌⊎◌, ◌↔◌, ℕ, ◌+◌, ◌-◌, ◌<◌, ◌≤◌, ◌==◌, if◌then◌else◌, List, length}
use Rattle.persist_model.specs.declared.event.Event.{Event}
use Rattle.persist_model.specs.Region.{Words}
use Rattle.persist_model.specs.Progress.{Reaches}
use Rattle.persist_model.specs.Runs.{progress_at}
use Rattle.persist_model.specs.Records.{Record, Log, IsAmong, IsNewestFirst}
use Rattle.persist_model.specs.Shape.{Shape, heap, heap_words, log_words}
use Rattle.persist_model.specs.Chain.{view}
use Rattle.persist_model.specs.State.{State}
use Rattle.persist_model.specs.Sound.{HasState}
use Rattle.log_laws.specs.Recovering.{with_heap}
use Rattle.log_laws.specs.StateAppends.{IsAppend}
use Rattle.log_laws.specs.MoveRoom.{TakesCell}
use Rattle.region_layout.specs.Layout.{IsAllowed}
use Rattle.bucket_log.specs.declared.append.Place.{Place}
use Rattle.bucket_log.specs.Appends.{CanAppend, region_append}

-- one cell less room in a partition
abbrev pub less_room : ℕ → (ℕ → ℕ) → ℕ → ℕ
less_room p room q = if q == p then room q - 1 else room q

-- r has the greatest number
abbrev pub IsAbove : State → Record → Type 0
IsAbove s r = (x : Record) → IsAmong s.log x → x.lsn < r.lsn

-- In each image of each prefix the log words have the state before, or the one with the record and one cell less room; the last has it.
abbrev pub AppendsAreStates : Type 0
AppendsAreStates = (shape : Shape) (p : ℕ) (z : Words) (s : State) (chain : List ℕ) (place : Place) (r : Record) →
    IsAllowed shape → p < shape.partitions → HasState shape z s → CanAppend shape p (view p (log_words shape z)) chain place r → IsAbove s r →
    IsAppend shape z s r (less_room p s.room) (region_append shape p place r)

-- Before the gate's store, which is the last event but one, each image has the state before.
abbrev pub AppendsWait : Type 0
AppendsWait = (shape : Shape) (p : ℕ) (z v : Words) (s : State) (chain : List ℕ) (place : Place) (r : Record) (k : ℕ) →
    IsAllowed shape → p < shape.partitions → HasState shape z s → CanAppend shape p (view p (log_words shape z)) chain place r →
    k + 2 ≤ length (region_append shape p place r) → Reaches (λ a. a < heap shape) (progress_at z (region_append shape p place r) k) v →
    HasState shape v (with_heap s (heap_words shape v))

-- the room falls by one in the record's partition alone
abbrev pub AppendsTakeCell : Type 0
AppendsTakeCell = (shape : Shape) (p : ℕ) (z : Words) (s : State) (chain : List ℕ) (place : Place) (r : Record) →
    IsAllowed shape → p < shape.partitions → HasState shape z s → CanAppend shape p (view p (log_words shape z)) chain place r →
    TakesCell shape s r (less_room p s.room)

-- ---- a record whose number was drawn before that of a newer record

-- the later log has r beside the records of the log, newest first
pub record Gains (log : Log) (r : Record) (later : Log) : Type 0 where
  pub newest_first : IsNewestFirst later
  pub each : (x : Record) → IsAmong later x ↔ ((x ≡ r) ⊎ IsAmong log x)

-- the state with the later log, and one cell less room in the partition
abbrev pub with_log : ℕ → State → Log → State
with_log p s later = record { log = later; words = s.words; room = less_room p s.room }

-- In each image of each prefix the log words have the state s or the state x; the last has x.
pub record LeadsTo (shape : Shape) (w : Words) (s x : State) (plan : List Event) : Type 0 where
  pub images : (k : ℕ) (v : Words) → Reaches (λ a. a < heap shape) (progress_at w plan k) v →
      HasState shape v (with_heap s (heap_words shape v)) ⊎ HasState shape v (with_heap x (heap_words shape v))
  pub last : (v : Words) → Reaches (λ a. a < heap shape) (progress_at w plan (length plan)) v → HasState shape v (with_heap x (heap_words shape v))

-- An append leads to the log that has gained the record, wherever its number puts it.
abbrev pub AppendsGain : Type 0
AppendsGain = (shape : Shape) (p : ℕ) (z : Words) (s : State) (chain : List ℕ) (place : Place) (r : Record) (later : Log) →
    IsAllowed shape → p < shape.partitions → HasState shape z s → CanAppend shape p (view p (log_words shape z)) chain place r → Gains s.log r later →
    LeadsTo shape z s (with_log p s later) (region_append shape p place r)
