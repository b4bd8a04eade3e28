-- A fresh bucket that is put behind the chain with its records. w are the words of the partition's view.
use Rattle.std.specs.Prelude.{◌≡◌, ◌≢◌, ◌⊎◌, ◌↔◌, ℕ, suc, ◌+◌, ◌<◌, ◌≤◌, ◌==◌, if◌then◌else◌, List, [], ◌∷◌, ◌++◌, map, length, Some, slice_get}
use Rattle.persist_model.specs.declared.event.Event.{Event}
use Rattle.persist_model.specs.Region.{Words}
use Rattle.persist_model.specs.Progress.{start, advance_all, Reaches}
use Rattle.persist_model.specs.Runs.{progress_at}
use Rattle.persist_model.specs.Records.{Record, IsAmong}
use Rattle.persist_model.specs.Shape.{Shape, IsBucketOf}
use Rattle.persist_model.specs.Chain.{TO_REMOVE, view, out_event, IsAbsent, last_or}
use Rattle.persist_model.specs.ImageRecords.{cell_address, IsRecordOf}
use Rattle.persist_model.specs.Sound.{closed_cells, room_of}
use Rattle.region_layout.specs.declared.cell.Cell.{Cell}
use Rattle.region_layout.specs.Cell.{record_of}
use Rattle.region_layout.specs.Layout.{IsAllowed}
use Rattle.atomic_list.specs.Rules.{IsAtRest, IsList}
use Rattle.bucket_log.specs.Words.{IsLogWord, IsPartWord, KeepsLog}
use Rattle.bucket_log.specs.PartWords.{AreOnPart}
use Rattle.batch_log.specs.Plans.{bucket_plan}

-- the records of the cells from number c on, in order
abbrev pub records_from : ℕ → ℕ → List Cell → List Record
records_from bucket c [] = []
records_from bucket c (cell ∷ cells) = record_of (cell_address bucket c) cell ∷ records_from bucket (suc c) cells

abbrev pub bucket_records : ℕ → List Cell → List Record
bucket_records bucket cells = records_from bucket 0 cells

-- The partition's list is at rest, the bucket isn't in it, and its records are at least one, not too many, and open.
pub record CanFill (shape : Shape) (p : ℕ) (w : Words) (chain : List ℕ) (bucket tail : ℕ) (records : List Cell) : Type 0 where
  pub at_rest : IsAtRest shape p w chain
  pub is_bucket : IsBucketOf shape p bucket
  pub absent : IsAbsent bucket chain
  pub tail_is : tail ≡ last_or 0 chain
  pub some : 1 ≤ length records
  pub few : length records ≤ shape.cells
  pub gates : (c : ℕ) (cell : Cell) → slice_get records c ≡ Some cell → cell.lsn ≢ 0

-- the free cells of the chain's last bucket: no record can go there once another bucket is behind it
abbrev pub free_cells : Shape → Words → List ℕ → ℕ
free_cells shape w chain = if last_or 0 chain == 0 then 0 else closed_cells w (last_or 0 chain) shape.cells

-- the second has these records more
abbrev pub AddsRecords : ℕ → Words → List ℕ → Words → List ℕ → List Record → Type 0
AddsRecords cells w xs v ys new = (r : Record) → IsRecordOf cells ys v r ↔ (IsRecordOf cells xs w r ⊎ IsAmong new r)

-- v has a list with these records more, and so many cells less room, and the free cells of the bucket that was last have fallen away
pub record AddsAll (shape : Shape) (p : ℕ) (w : Words) (xs : List ℕ) (new : List Record) (v : Words) : Type 0 where
  pub chain : List ℕ
  pub list : IsList shape p v chain
  pub to_remove : v TO_REMOVE ≡ 0
  pub records : AddsRecords shape.cells w xs v chain new
  pub room : room_of shape v p chain + free_cells shape w xs + length new ≡ room_of shape w p xs

-- the events of one bucket on the region
abbrev pub region_bucket : Shape → ℕ → ℕ → ℕ → List Cell → List Event
region_bucket shape p bucket tail records = map (out_event p) (bucket_plan shape.cells bucket tail records)

-- ---- the laws. z are the region's words, settled in the partition's log.

-- at each prefix each image has the records before, or those and all of the bucket's
abbrev pub EachFillingImage : Type 0
EachFillingImage = (shape : Shape) (p : ℕ) (z v : Words) (chain : List ℕ) (bucket tail : ℕ) (records : List Cell) (k : ℕ) →
    IsAllowed shape → p < shape.partitions → CanFill shape p (view p z) chain bucket tail records →
    Reaches (IsPartWord shape p) (progress_at z (region_bucket shape p bucket tail records) k) v →
    KeepsLog shape p (view p z) chain (view p v) ⊎ AddsAll shape p (view p z) chain (bucket_records bucket records) (view p v)

-- once all events are made, the list is at rest with the bucket behind the chain, and nothing is pending
abbrev pub BucketsLeaveChains : Type 0
BucketsLeaveChains = (shape : Shape) (p : ℕ) (z v : Words) (chain : List ℕ) (bucket tail : ℕ) (records : List Cell) →
    IsAllowed shape → p < shape.partitions → CanFill shape p (view p z) chain bucket tail records →
    Reaches (IsPartWord shape p) (progress_at z (region_bucket shape p bucket tail records) (length (region_bucket shape p bucket tail records))) v →
    IsAtRest shape p (view p v) (chain ++ bucket ∷ [])

abbrev pub BucketsSettle : Type 0
BucketsSettle = (shape : Shape) (p : ℕ) (z : Words) (bucket tail : ℕ) (records : List Cell) →
    (advance_all (start z) (region_bucket shape p bucket tail records)).pending ≡ []

-- the events store to words of the partition alone
abbrev pub BucketsAreOnPart : Type 0
BucketsAreOnPart = (shape : Shape) (p : ℕ) (w : Words) (chain : List ℕ) (bucket tail : ℕ) (records : List Cell) → p < shape.partitions →
    CanFill shape p w chain bucket tail records → AreOnPart shape p (region_bucket shape p bucket tail records)

-- words that agree on the partition's own words may be filled alike
abbrev pub OwnWordsFill : Type 0
OwnWordsFill = (shape : Shape) (p : ℕ) (w v : Words) (chain : List ℕ) (bucket tail : ℕ) (records : List Cell) → ((a : ℕ) → IsLogWord shape p a → v a ≡ w a) →
    CanFill shape p w chain bucket tail records → CanFill shape p v chain bucket tail records
