-- A record that recovery appends to a partition.
use Rattle.std.specs.Prelude.{◌≡◌, ◌≢◌, ℕ, ◌<◌, ◌≤◌, List, if◌then◌else◌}
use Rattle.persist_model.specs.Region.{Words, Region}
use Rattle.persist_model.specs.Records.{Record, IsAmong}
use Rattle.persist_model.specs.Shape.{Shape, heap, log_words, part_of}
use Rattle.persist_model.specs.Chain.{view}
use Rattle.persist_model.specs.State.{State}
use Rattle.log_laws.specs.StateAppends.{MayCome}
use Rattle.log_laws.specs.Recovery.{Step, grown}
use Rattle.lane_traits.specs.declared.device.Done.{Done}
use Rattle.lane_traits.specs.declared.device.Done.TheVariants.{Made, Stopped}
use Rattle.region_layout.specs.declared.cell.Cell.{Cell}
use Rattle.region_layout.specs.declared.layout.Layout.{Layout}
use Rattle.region_layout.specs.Layout.{layout_shape}
use Rattle.region_layout.specs.Cell.{record_of}
use Rattle.bucket_log.specs.declared.append.Place.{Place}
use Rattle.bucket_log.specs.Appends.{CanAppend}
use Rattle.bucket_log.specs.Places.{IsNextPlace}
use Rattle.bucket_log.specs.Plans.{place_address}
use Rattle.bucket_log.specs.States.{less_room}
use Rattle.log_partition.specs.declared.used.UsedBuckets.{UsedBuckets}
use Rattle.log_partition.specs.Used.{KnowsChains, chains_in, with_bucket}
use Rattle.recovery_run.specs.Reached.{newest_at, HasReached, IsQuiet}
use Rattle.recovery_undo.specs.declared.appending.Appended.{Appended}
use Rattle.recovery_undo.specs.declared.appending.Appended.TheVariants.{At, Stopped as Halted}

-- no recovery word of any partition asks for a repair
abbrev pub AreQuiet : Shape → Region → Type 0
AreQuiet shape region = (p : ℕ) → p < shape.partitions → IsQuiet p (newest_at region)

-- Recovery has come to y, the partition is quiet and has room, and the cell's gate is a number above all others.
pub record CanTake (layout : Layout) (p : ℕ) (cell : Cell) (first y : State) (region : Region) : Type 0 where
  pub inside : p < layout.partitions
  pub reached : HasReached (layout_shape layout) first y region
  pub quiet : IsQuiet p (newest_at region)
  pub room : 1 ≤ y.room p
  pub gate : cell.lsn ≢ 0
  pub above : (r : Record) → IsAmong y.log r → r.lsn < cell.lsn

-- a fact of the gate's address, where the append was made
abbrev pub IfAt : Appended → (ℕ → Type 0) → Type 0
IfAt (At a) P = P a
IfAt Halted P = Unit {0}

-- as a part of recovery
abbrev pub done_of : Appended → Done
done_of (At a) = Made
done_of Halted = Stopped

-- the state with the cell's record
abbrev pub with_cell : State → ℕ → Cell → ℕ → State
with_cell y p cell at = grown y (record_of at cell) (less_room p y.room)

-- the cell may come wherever in the partition it stands: whatever is pending for covered heap words, or where nothing is
abbrev pub MayTake : Layout → ℕ → Cell → State → Type 0
MayTake layout p cell y = (at : ℕ) → part_of (layout_shape layout) at ≡ p → MayCome (layout_shape layout) y (record_of at cell) (less_room p y.room)

abbrev pub StepsTo : Layout → ℕ → Cell → State → Type 0
StepsTo layout p cell y = (at : ℕ) → part_of (layout_shape layout) at ≡ p → Step (layout_shape layout) y (with_cell y p cell at)

-- the place takes any record that stands there with an open gate
pub record IsPlaceFor (shape : Shape) (p : ℕ) (w : Words) (place : Place) : Type 0 where
  pub chain : List ℕ
  pub takes : (r : Record) → r.at ≡ place_address place → r.lsn ≢ 0 → CanAppend shape p (view p (log_words shape w)) chain place r

-- at is the address of the partition's next place in these words, as the log's reader finds it
pub record IsNextAddress (shape : Shape) (p : ℕ) (w : Words) (at : ℕ) : Type 0 where
  pub place : Place
  pub is_next : IsNextPlace shape p (view p w) (chains_in shape w p) place
  pub at_is : at ≡ place_address place

-- the table has the chains that stand in the region's newest words
abbrev pub KnowsRegion : Layout → UsedBuckets → Region → Type 0
KnowsRegion layout table region = KnowsChains (layout_shape layout) table (chains_in (layout_shape layout) (newest_at region))

-- the chains behind an append to partition p
abbrev pub chains_behind : ℕ → Place → (ℕ → List ℕ) → ℕ → List ℕ
chains_behind p place chains = if place.fresh then with_bucket p place.bucket chains else chains

-- all words below the heap are read as before
abbrev pub KeepsLogWords : Shape → Region → Region → Type 0
KeepsLogWords shape before later = (a : ℕ) → a < heap shape → newest_at later a ≡ newest_at before a
