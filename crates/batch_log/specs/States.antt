-- A bucket with its records in the form of states.
use Rattle.std.specs.Prelude.{◌≡◌, ◌≢◌, ◌⊎◌, ◌↔◌, ℕ, ◌+◌, ◌-◌, ◌*◌, ◌<◌, ◌≤◌, ◌==◌, ◌^◌, if◌then◌else◌, List, [], ◌∷◌, length}
use Rattle.persist_model.specs.Region.{Words}
use Rattle.persist_model.specs.Progress.{Reaches}
use Rattle.persist_model.specs.Runs.{progress_at}
use Rattle.persist_model.specs.Records.{Record, Log, IsAmong, IsNewestFirst}
use Rattle.persist_model.specs.Shape.{Shape, heap, heap_words, log_words, part_of}
use Rattle.persist_model.specs.Chain.{view}
use Rattle.persist_model.specs.State.{State, total_need}
use Rattle.persist_model.specs.Need.{need_in, has_of}
use Rattle.persist_model.specs.Sound.{HasState}
use Rattle.log_laws.specs.Recovering.{with_heap, AreOnLog}
use Rattle.log_laws.specs.Parts.{AreDurable}
use Rattle.log_laws.specs.Groups.{HasRoomBehind}
use Rattle.region_layout.specs.declared.cell.Cell.{Cell}
use Rattle.region_layout.specs.Layout.{IsAllowed}
use Rattle.bucket_log.specs.States.{LeadsTo}
use Rattle.plan_records.specs.Passing.{inserted}
use Rattle.plan_records.specs.Groups.{with_all}
use Rattle.batch_log.specs.Buckets.{CanFill, bucket_records, free_cells, region_bucket}

-- so many cells less room in a partition
abbrev pub falls : ℕ → ℕ → (ℕ → ℕ) → ℕ → ℕ
falls p cells room q = if q == p then room q - cells else room q

-- the later log has these records beside those of the log, newest first
pub record GainsAll (log : Log) (rs : List Record) (later : Log) : Type 0 where
  pub newest_first : IsNewestFirst later
  pub each : (x : Record) → IsAmong later x ↔ (IsAmong rs x ⊎ IsAmong log x)

-- The state with the later log: the room falls by its new records and by the free cells of the bucket that was last.
abbrev pub behind : ℕ → ℕ → State → List Record → Log → State
behind p free s rs later = record { log = later; words = s.words; room = falls p (free + length rs) s.room }

-- ---- the laws

-- In each image of each prefix the log words have the state before, or the one with all of the bucket's records; the last has it.
abbrev pub BucketsGain : Type 0
BucketsGain = (shape : Shape) (p : ℕ) (z : Words) (s : State) (chain : List ℕ) (bucket tail : ℕ) (records : List Cell) (later : Log) →
    IsAllowed shape → p < shape.partitions → HasState shape z s → CanFill shape p (view p (log_words shape z)) chain bucket tail records →
    GainsAll s.log (bucket_records bucket records) later →
    LeadsTo shape z s (behind p (free_cells shape (log_words shape z) chain) s (bucket_records bucket records) later) (region_bucket shape p bucket tail records)

-- Before the store of TO_APPEND, behind which there are six events, each image has the state before.
abbrev pub BucketsWait : Type 0
BucketsWait = (shape : Shape) (p : ℕ) (z v : Words) (s : State) (chain : List ℕ) (bucket tail : ℕ) (records : List Cell) (k : ℕ) →
    IsAllowed shape → p < shape.partitions → HasState shape z s → CanFill shape p (view p (log_words shape z)) chain bucket tail records →
    k + 7 ≤ length (region_bucket shape p bucket tail records) → Reaches (λ a. a < heap shape) (progress_at z (region_bucket shape p bucket tail records) k) v →
    HasState shape v (with_heap s (heap_words shape v))

-- From its fence on, behind which there are five events, each image has the state with the records.
abbrev pub BucketsStand : Type 0
BucketsStand = (shape : Shape) (p : ℕ) (z v : Words) (s : State) (chain : List ℕ) (bucket tail : ℕ) (records : List Cell) (later : Log) (k : ℕ) →
    IsAllowed shape → p < shape.partitions → HasState shape z s → CanFill shape p (view p (log_words shape z)) chain bucket tail records →
    GainsAll s.log (bucket_records bucket records) later →
    length (region_bucket shape p bucket tail records) ≤ k + 5 → Reaches (λ a. a < heap shape) (progress_at z (region_bucket shape p bucket tail records) k) v →
    HasState shape v (with_heap (behind p (free_cells shape (log_words shape z) chain) s (bucket_records bucket records) later) (heap_words shape v))

-- the events store durably to words of the log alone
pub record BucketsAreOnLog : Type 0 where
  pub on_log : (shape : Shape) (p : ℕ) (w : Words) (chain : List ℕ) (bucket tail : ℕ) (records : List Cell) → IsAllowed shape → p < shape.partitions →
      CanFill shape p w chain bucket tail records → AreOnLog shape (region_bucket shape p bucket tail records)
  pub durable : (shape : Shape) (p bucket tail : ℕ) (records : List Cell) → AreDurable (region_bucket shape p bucket tail records)

-- the room falls in the partition alone, by what the state behind says
pub record FallsBy (p cells : ℕ) (room later : ℕ → ℕ) : Type 0 where
  pub here : later p + cells ≡ room p
  pub elsewhere : (q : ℕ) → q ≢ p → later q ≡ room q

abbrev pub BucketsTakeRoom : Type 0
BucketsTakeRoom = (shape : Shape) (p : ℕ) (z : Words) (s : State) (chain : List ℕ) (bucket tail : ℕ) (records : List Cell) →
    IsAllowed shape → p < shape.partitions → HasState shape z s → CanFill shape p (view p (log_words shape z)) chain bucket tail records →
    FallsBy p (free_cells shape (log_words shape z) chain + length records) s.room (falls p (free_cells shape (log_words shape z) chain + length records) s.room)

-- The log has 2 cells for each of n updates of t beyond what recovery needs, as many more as a bucket has, and 2 more for a first record.
pub record HasCellsFor (shape : Shape) (t p n : ℕ) (s : State) : Type 0 where
  pub here : need_in (part_of shape) p s.log + 2 * n + shape.cells + (if has_of t s.log then 0 else 2) ≤ s.room p
  pub checkpoint_here : shape.policy ≡ 2 → p ≡ 0 → need_in (part_of shape) p s.log + 2 * n + shape.cells + (if has_of t s.log then 0 else 2) + 1 ≤ s.room p
  pub checkpoint_elsewhere : shape.policy ≡ 2 → p ≢ 0 → need_in (part_of shape) 0 s.log + 1 ≤ s.room 0

-- Then the room that is left behind any m of them is enough for recovery, and so are the numbers where they were.
abbrev pub GroupsLeaveRoom : Type 0
GroupsLeaveRoom = (shape : Shape) (t p n m free top : ℕ) (s : State) (room : ℕ → ℕ) → p < shape.partitions → HasCellsFor shape t p n s → m ≤ n → free ≤ shape.cells →
    FallsBy p (free + m) s.room room → top + total_need (part_of shape) shape.partitions s.log + (if has_of t s.log then n else n + 2) + 1 ≤ 2 ^ 63 →
    HasRoomBehind shape t p top s m room

-- each number is new to the log and to those before it
abbrev pub AreFresh : Log → List Record → Type 0
AreFresh log [] = Unit {0}
AreFresh log (u ∷ us) = ((x : Record) → IsAmong log x → x.lsn ≢ u.lsn) × AreFresh (inserted u log) us

-- with each record at the place of its number
abbrev pub BucketsComeAtOnce : Type 0
BucketsComeAtOnce = (shape : Shape) (p : ℕ) (z : Words) (s : State) (chain : List ℕ) (bucket tail : ℕ) (records : List Cell) →
    IsAllowed shape → p < shape.partitions → HasState shape z s → CanFill shape p (view p (log_words shape z)) chain bucket tail records →
    AreFresh s.log (bucket_records bucket records) →
    LeadsTo shape z s (with_all s (bucket_records bucket records) (falls p (free_cells shape (log_words shape z) chain + length records) s.room))
    (region_bucket shape p bucket tail records)
