-- A group: each image has its records in whole buckets.
use Rattle.std.specs.Prelude.{◌≡◌, ◌≢◌, ℕ, zero, suc, ◌+◌, ◌-◌, ◌*◌, ◌<◌, ◌≤◌, List, [], ◌∷◌, ◌++◌, map, length, take, drop, Some, slice_get}
use Rattle.persist_model.specs.declared.event.Event.{Event}
use Rattle.persist_model.specs.Region.{Words}
use Rattle.persist_model.specs.Progress.{Reaches}
use Rattle.persist_model.specs.Runs.{progress_at}
use Rattle.persist_model.specs.Records.{Record, Log}
use Rattle.persist_model.specs.Shape.{Shape, heap, heap_words, log_words, IsBucketOf}
use Rattle.persist_model.specs.Chain.{view, out_event, Each, IsAbsent, HasNoRepeats, last_or}
use Rattle.persist_model.specs.State.{State}
use Rattle.persist_model.specs.Sound.{HasState}
use Rattle.log_laws.specs.Recovering.{with_heap}
use Rattle.region_layout.specs.declared.cell.Cell.{Cell}
use Rattle.region_layout.specs.declared.layout.Buckets.{Buckets}
use Rattle.region_layout.specs.Layout.{IsAllowed, IsPartition}
use Rattle.plan_records.specs.Groups.{with_all}
use Rattle.atomic_list.specs.Rules.{IsAtRest}
use Rattle.atomic_list.specs.Walk.{chain_of}
use Rattle.batch_log.specs.ChosenSlots.{ChosenSlots}
use Rattle.batch_log.specs.FreeBuckets.{buckets_for, IsChosen}
use Rattle.batch_log.specs.Plans.{group_plan}
use Rattle.batch_log.specs.Buckets.{bucket_records, free_cells}
use Rattle.batch_log.specs.States.{falls, GainsAll, behind, AreFresh}

-- the records of a group that have come with these buckets, in order
abbrev pub group_records : ℕ → List ℕ → List Cell → List Record
group_records cells [] records = []
group_records cells (b ∷ buckets) records = bucket_records b (take cells records) ++ group_records cells buckets (drop cells records)

-- The list is at rest, the buckets are as many as the records take, different, and not in the chain, and the records are open.
pub record CanCome (shape : Shape) (p : ℕ) (w : Words) (chain : List ℕ) (tail : ℕ) (buckets : List ℕ) (records : List Cell) : Type 0 where
  pub at_rest : IsAtRest shape p w chain
  pub tail_is : tail ≡ last_or 0 chain
  pub are_buckets : Each (IsBucketOf shape p) buckets
  pub absent : Each (λ b. IsAbsent b chain) buckets
  pub no_repeats : HasNoRepeats buckets
  pub enough : length buckets ≡ buckets_for shape.cells (length records)
  pub gates : (c : ℕ) (cell : Cell) → slice_get records c ≡ Some cell → cell.lsn ≢ 0

abbrev pub region_group : Shape → ℕ → ℕ → List ℕ → List Cell → List Event
region_group shape p tail buckets records = map (out_event p) (group_plan shape.cells tail buckets records)

-- An image of the first k events may have the records of j buckets: a bucket's records are in no image before the store of its TO_APPEND, and in each
-- from that store's fence on.
abbrev pub MayHave : ℕ → List ℕ → List Cell → ℕ → ℕ → Type 0
MayHave cells [] records k j = j ≡ 0
MayHave cells (b ∷ buckets) records k zero = k ≤ 5 + cells + 7 * length (take cells records)
MayHave cells (b ∷ buckets) records k (suc j) = (5 + cells + 7 * length (take cells records) ≤ k) × MayHave cells buckets (drop cells records) (k - (11 + cells + 7 * length (take cells records))) j

-- with the records of the first j buckets, in a log for each j
abbrev pub state_of : Shape → ℕ → ℕ → State → List ℕ → List Cell → (ℕ → Log) → ℕ → State
state_of shape p free s buckets records logs zero = s
state_of shape p free s buckets records logs (suc j) = behind p free s (group_records shape.cells (take (suc j) buckets) records) (logs (suc j))

-- ---- the laws

-- each image of each prefix has the records before and those of the first buckets; the last has all of them
pub record GroupsLead : Type 0 where
  pub images : (shape : Shape) (p : ℕ) (z v : Words) (s : State) (chain : List ℕ) (tail : ℕ) (buckets : List ℕ) (records : List Cell) (logs : ℕ → Log) (k : ℕ) →
      IsAllowed shape → p < shape.partitions → HasState shape z s → CanCome shape p (view p (log_words shape z)) chain tail buckets records →
      ((j : ℕ) → j ≤ length buckets → GainsAll s.log (group_records shape.cells (take j buckets) records) (logs j)) →
      Reaches (λ a. a < heap shape) (progress_at z (region_group shape p tail buckets records) k) v →
      (j : ℕ) × (j ≤ length buckets) × MayHave shape.cells buckets records k j
      × HasState shape v (with_heap (state_of shape p (free_cells shape (log_words shape z) chain) s buckets records logs j) (heap_words shape v))
  pub last : (cells : ℕ) (tail : ℕ) (buckets : List ℕ) (records : List Cell) (j : ℕ) →
      MayHave cells buckets records (length (group_plan cells tail buckets records)) j → j ≡ length buckets

-- the room behind the first j buckets of a group, with these records
abbrev pub room_behind : ℕ → ℕ → (ℕ → ℕ) → ℕ → List Record → ℕ → ℕ
room_behind p free room zero rs = room
room_behind p free room (suc j) rs = falls p (free + length rs) room

-- the same with each record at the place of its number
abbrev pub GroupsComeAtOnce : Type 0
GroupsComeAtOnce = (shape : Shape) (p : ℕ) (z v : Words) (s : State) (chain : List ℕ) (tail : ℕ) (buckets : List ℕ) (records : List Cell) (k : ℕ) →
    IsAllowed shape → p < shape.partitions → HasState shape z s → CanCome shape p (view p (log_words shape z)) chain tail buckets records →
    AreFresh s.log (group_records shape.cells buckets records) →
    Reaches (λ a. a < heap shape) (progress_at z (region_group shape p tail buckets records) k) v →
    (j : ℕ) × (j ≤ length buckets) × MayHave shape.cells buckets records k j
    × HasState shape v (with_heap (with_all s (group_records shape.cells (take j buckets) records)
    (room_behind p (free_cells shape (log_words shape z) chain) s.room j (group_records shape.cells (take j buckets) records))) (heap_words shape v))

-- the slots that were chosen may take a group of their number
abbrev pub SlotsMayCome : Type 0
SlotsMayCome = (shape : Shape) (p : ℕ) (part : Buckets) (w : Words) (before later : ChosenSlots) (records : List Cell) → IsAllowed shape → p < shape.partitions → IsPartition shape p part →
    IsAtRest shape p w (chain_of shape w) → IsChosen shape part w (buckets_for shape.cells (length records)) before later →
    ((c : ℕ) (cell : Cell) → slice_get records c ≡ Some cell → cell.lsn ≢ 0) → CanCome shape p w (chain_of shape w) later.tail later.buckets records
