-- What an append keeps: the images of its prefixes.
use Rattle.std.specs.Prelude.{◌⊎◌, ℕ, zero, suc, ◌+◌, ◌*◌, ◌<◌, ◌≤◌, ◌^◌, List, length}
use Rattle.persist_model.specs.declared.event.Event.{Event}
use Rattle.persist_model.specs.Region.{Words}
use Rattle.persist_model.specs.Progress.{Reaches}
use Rattle.persist_model.specs.Runs.{progress_at}
use Rattle.persist_model.specs.Records.{Record, IsAmong}
use Rattle.persist_model.specs.Shape.{Shape, heap, log_words, heap_words}
use Rattle.persist_model.specs.Chain.{view}
use Rattle.persist_model.specs.State.{State, IsSoundState}
use Rattle.persist_model.specs.Sound.{HasState}
use Rattle.log_laws.specs.Recovery.{KeepsStanding}
use Rattle.log_laws.specs.Recovering.{with_heap}
use Rattle.log_laws.specs.Moves.{StandsCommitted}
use Rattle.region_layout.specs.Layout.{IsAllowed}
use Rattle.bucket_log.specs.declared.append.Place.{Place}
use Rattle.bucket_log.specs.Appends.{CanAppend, region_append}
use Rattle.bucket_log.specs.States.{with_log}
use Rattle.plan_records.specs.Passing.{inserted, Passes}

-- the room of the first n partitions
abbrev pub total_room : (ℕ → ℕ) → ℕ → ℕ
total_room room zero = 0
total_room room (suc n) = total_room room n + room n

-- A partition has room in its chain's last bucket and in the buckets outside its chain, so all together have at most as much as this.
abbrev pub RoomIsBounded : Type 0
RoomIsBounded = (shape : Shape) (w : Words) (s : State) → HasState shape w s → total_room s.room shape.partitions ≤ shape.cells * (shape.buckets + shape.partitions)

-- The words w have a sound state, and the place may take r. Newer records may be there before r; and top, which is above all numbers, leaves
-- one for each cell that is free, and one more.
pub record MayAppend (shape : Shape) (p : ℕ) (w : Words) (s : State) (chain : List ℕ) (place : Place) (r : Record) : Type 0 where
  pub allowed : IsAllowed shape
  pub inside : p < shape.partitions
  pub has : HasState shape w s
  pub sound : IsSoundState shape s
  pub can : CanAppend shape p (view p (log_words shape w)) chain place r
  pub passes : Passes s.log r
  pub top : ℕ
  pub above : (x : Record) → IsAmong s.log x → x.lsn < top
  pub own : r.lsn ≤ top
  pub numbers : top + total_room s.room shape.partitions + 1 ≤ 2 ^ 63

-- the log words of v may stand after the first k events of a plan on the log, from w
abbrev pub MayStandAt : Shape → Words → List Event → ℕ → Words → Type 0
MayStandAt shape w plan k v = Reaches (λ a. a < heap shape) (progress_at w plan k) v

-- the records of s, with v's own heap words
abbrev pub seen : Shape → Words → State → State
seen shape v s = with_heap s (heap_words shape v)

-- v has the state x, which is sound and has the standing words of s, both with v's own heap words.
pub record Keeps (shape : Shape) (v : Words) (s x : State) : Type 0 where
  pub has : HasState shape v (seen shape v x)
  pub sound : IsSoundState shape (seen shape v x)
  pub standing : KeepsStanding shape.policy (seen shape v s) (seen shape v x)

-- v has the state x, which is sound, and its words stand as t wrote them.
pub record Commits (shape : Shape) (v : Words) (s : State) (t : ℕ) (x : State) : Type 0 where
  pub has : HasState shape v (seen shape v x)
  pub sound : IsSoundState shape (seen shape v x)
  pub standing : StandsCommitted shape.policy (seen shape v s) t (seen shape v x)

-- s with r, which took a cell of the partition
abbrev pub with_record : ℕ → State → Record → State
with_record p s r = with_log p s (inserted r s.log)

-- At each prefix of the append of r, each image has the records before, or those and r, is sound, and has the standing words before;
-- behind the last event it has r. This holds of the images whose heap words have C.
pub record AppendKeeps (shape : Shape) (p : ℕ) (w : Words) (s : State) (place : Place) (r : Record) (C : Words → Type 0) : Type 0 where
  pub images : (k : ℕ) (v : Words) → C (heap_words shape v) → MayStandAt shape w (region_append shape p place r) k v →
      Keeps shape v s s ⊎ Keeps shape v s (with_record p s r)
  pub whole : (v : Words) → C (heap_words shape v) → MayStandAt shape w (region_append shape p place r) (length (region_append shape p place r)) v →
      Keeps shape v s (with_record p s r)

-- At each prefix of the append of e, the end of a commit, each image has the records before, with the standing words before, or those and e,
-- with the words standing as the transaction wrote them; behind the last event it has e.
pub record AppendCommits (shape : Shape) (p : ℕ) (w : Words) (s : State) (place : Place) (e : Record) (C : Words → Type 0) : Type 0 where
  pub images : (k : ℕ) (v : Words) → C (heap_words shape v) → MayStandAt shape w (region_append shape p place e) k v →
      Keeps shape v s s ⊎ Commits shape v s e.transaction (with_record p s e)
  pub whole : (v : Words) → C (heap_words shape v) → MayStandAt shape w (region_append shape p place e) (length (region_append shape p place e)) v →
      Commits shape v s e.transaction (with_record p s e)
