-- The plan of a group: fresh buckets are filled one after another, and each is put behind the chain with all of its records.
-- Addresses are those of the partition's view.
use Rattle.std.specs.Prelude.{◌≡◌, ℕ, zero, suc, ◌+◌, ◌*◌, ◌≤◌, List, [], ◌∷◌, ◌++◌, length, take, drop, Option, Some, None, slice_get}
use Rattle.persist_model.specs.declared.event.Event.{Event}
use Rattle.persist_model.specs.declared.event.Event.TheVariants.{Store, PStore, WriteBack, Fence}
use Rattle.persist_model.specs.ImageRecords.{cell_address}
use Rattle.region_layout.specs.declared.cell.Cell.{Cell}
use Rattle.atomic_list.specs.Plans.{insertion, HasEvents}
use Rattle.batch_log.specs.FreeBuckets.{buckets_for}

-- the eight words of a cell, its gate first
abbrev pub cell_words : ℕ → Cell → List Event
cell_words at cell =
    PStore at cell.lsn ∷ PStore (at + 1) cell.transaction ∷ PStore (at + 2) cell.kind ∷ PStore (at + 3) cell.word ∷
    PStore (at + 4) cell.before ∷ PStore (at + 5) cell.after ∷ PStore (at + 6) cell.undo_next ∷ PStore (at + 7) cell.outcome ∷ []

-- a cell that holds a record is written, of another the gate is closed
abbrev pub cell_part : ℕ → Option Cell → List Event
cell_part at (Some cell) = cell_words at cell
cell_part at None = PStore at 0 ∷ []

-- the bucket's first n cells, in order
abbrev pub filling : ℕ → List Cell → ℕ → List Event
filling bucket records zero = []
filling bucket records (suc n) = filling bucket records n ++ cell_part (cell_address bucket n) (slice_get records n)

-- the bucket is filled, and put behind the tail
abbrev pub bucket_plan : ℕ → ℕ → ℕ → List Cell → List Event
bucket_plan cells bucket tail records = filling bucket records cells ++ insertion (record { node = bucket; tail = tail })

-- bucket after bucket, each behind the one before
abbrev pub group_plan : ℕ → ℕ → List ℕ → List Cell → List Event
group_plan cells tail [] records = []
group_plan cells tail (b ∷ buckets) records = bucket_plan cells b tail (take cells records) ++ group_plan cells b buckets (drop cells records)

-- ---- how many events there are, and how many of them are fences

abbrev pub bucket_events : ℕ → ℕ → ℕ
bucket_events cells n = 11 + cells + 7 * n

abbrev pub count_fences : List Event → ℕ
count_fences [] = 0
count_fences (Store a v ∷ events) = count_fences events
count_fences (PStore a v ∷ events) = count_fences events
count_fences (WriteBack a ∷ events) = count_fences events
count_fences (Fence ∷ events) = suc (count_fences events)

-- ---- the laws

-- a bucket of 16 cells with n records has 27 + 7n events
abbrev pub BucketsHaveEvents : Type 0
BucketsHaveEvents = (cells bucket tail : ℕ) (records : List Cell) → length records ≤ cells → HasEvents (bucket_plan cells bucket tail records) (bucket_events cells (length records))

-- a group of m records has 27 events for each bucket of 16 cells, and 7m more
abbrev pub GroupsHaveEvents : Type 0
GroupsHaveEvents = (cells tail : ℕ) (buckets : List ℕ) (records : List Cell) → 1 ≤ cells → length buckets ≡ buckets_for cells (length records) →
    HasEvents (group_plan cells tail buckets records) ((11 + cells) * length buckets + 7 * length records)

-- exactly four for each bucket
abbrev pub GroupsHaveFences : Type 0
GroupsHaveFences = (cells tail : ℕ) (buckets : List ℕ) (records : List Cell) → count_fences (group_plan cells tail buckets records) ≡ 4 * length buckets
