-- What a state gives to the code that makes the next step.
use Rattle.log_keeper.specs.declared.slots.TheConstants.{NOBODY}
use Rattle.std.specs.Prelude.{◌≡◌, ◌≢◌, ◌⊎◌, ℕ, ◌-◌, ◌%◌, ◌<◌, ◌≤◌, ◌^◌, Bool, true, false, List, length, slice_get, slice_index, Some}
use Rattle.persist_model.specs.declared.event.Event.{Event}
use Rattle.persist_model.specs.Region.{Words, Region, newest_words}
use Rattle.persist_model.specs.Records.{Record}
use Rattle.persist_model.specs.Standing.{IsLatest}
use Rattle.persist_model.specs.Shape.{words_of_shape}
use Rattle.log_laws.specs.Moves.{IsChangeBy}
use Rattle.lane_traits.specs.declared.draft.WordWrite.{WordWrite}
use Rattle.lane_traits.specs.Device.{IsWithin}
use Rattle.region_layout.specs.declared.layout.Layout.{Layout}
use Rattle.region_layout.specs.declared.layout.Buckets.{Buckets}
use Rattle.region_layout.specs.Layout.{layout_shape, IsPartition}
use Rattle.atomic_list.specs.declared.plans.Remove.{Remove}
use Rattle.bucket_log.specs.declared.append.Place.{Place}
use Rattle.bucket_log.specs.Reads.{IsLogOfPart}
use Rattle.bucket_log.specs.Places.{IsNextPlace}
use Rattle.atomic_list.specs.Walk.{chain_of}
use Rattle.persist_model.specs.Sound.{room_of}
use Rattle.log_clearing.specs.Dropping.{IsRemovalOf}
use Rattle.log_partition.specs.Views.{viewed}
use Rattle.lane_book.specs.declared.book.Book.{Book}
use Rattle.lane_book.specs.declared.lane.Lane.{Lane}
use Rattle.lane_book.specs.FacesOf.{lane_at}
use Rattle.lane_book.specs.Appends.{IsOpen}
use Rattle.log_keeper.specs.declared.keeper.LogKeeper.{LogKeeper}
use Rattle.log_keeper.specs.Fitting.{FitsLayout}
use Rattle.log_keeper.specs.Ledger.{settled_log}
use Rattle.log_keeper.specs.Listing.{gates_in}
use Rattle.log_keeper.specs.Logged.{plan_in}
use Rattle.log_keeper.specs.Keeper.{keeping_of, HasRoomIn, free_places}
use Rattle.log_keeper.specs.Rooms.{IsRoomAt}
use Rattle.txn_state.specs.Stages.{Stage, Free, Between, Leaving, Naming, Storing, Deleting, Securing, Opening, Undoing, TakingBack, Keeping, Ending, Closing, ClosingEnd, Dropping, Unbuilt, stage_of}
use Rattle.txn_state.specs.Ties.{IsWrittenWord, WaitsToAppend}
use Rattle.txn_state.specs.States.{IsStateOf}
use Rattle.txn_state.specs.AppendLaws.{newest_image, IsPlaceRead, AreLeft, made_in}
use Rattle.txn_state.specs.ClosingLaws.{IsRemovalRead}

-- ---- what is under way

-- the stages in which a step makes an event
abbrev pub makes_events : Stage → Bool
makes_events Free = false
makes_events Between = false
makes_events Leaving = false
makes_events Naming = true
makes_events Storing = true
makes_events Deleting = true
makes_events Securing = true
makes_events Opening = true
makes_events Undoing = true
makes_events TakingBack = true
makes_events Keeping = true
makes_events Ending = true
makes_events Closing = true
makes_events ClosingEnd = true
makes_events Dropping = true
makes_events Unbuilt = false

-- and those in which the event is one of an append
abbrev pub appends_in : Stage → Bool
appends_in Naming = true
appends_in Deleting = true
appends_in Opening = true
appends_in Undoing = true
appends_in Ending = true
appends_in _ = false

-- and of a closing or a removal
abbrev pub clears_in : Stage → Bool
clears_in Closing = true
clears_in ClosingEnd = true
clears_in Dropping = true
clears_in _ = false

-- The parts name words of the region.
abbrev pub RunsFit : Type 0 → Type 0
RunsFit E = (layout : Layout) (start : Words) (book : Book E) (keeper : LogKeeper) (region : Region) (spare events p : ℕ) → p < layout.partitions →
    IsStateOf layout start book keeper region spare events → FitsLayout layout ((keeping_of keeper).runs p).part

-- The lane's part has a next event, on a word of the region.
pub record HasNextEvent (layout : Layout) (keeper : LogKeeper) (region : Region) (p : ℕ) : Type 0 where
  pub event : Event
  pub next : slice_get (plan_in (layout_shape layout) (keeping_of keeper) p) ((keeping_of keeper).runs p).made ≡ Some event
  pub inside : IsWithin region.size event
  pub few : ((keeping_of keeper).runs p).made ≤ 2 ^ 63

abbrev pub HoldersGoOn : Type 0 → Type 0
HoldersGoOn E = (layout : Layout) (start : Words) (book : Book E) (keeper : LogKeeper) (region : Region) (spare events p : ℕ) → p < layout.partitions →
    (keeping_of keeper).holder p ≢ NOBODY → IsStateOf layout start book keeper region spare events → HasNextEvent layout keeper region p

-- A lane that closes or takes out holds its latch; and one that holds it appends, closes or takes out.
pub record HoldersAreBusy (E : Type 0) : Type 0 where
  pub clears : (layout : Layout) (start : Words) (book : Book E) (keeper : LogKeeper) (region : Region) (spare events l : ℕ) → l < length book.lanes.items →
      clears_in (stage_of (lane_at book l)) ≡ true → IsStateOf layout start book keeper region spare events → (keeping_of keeper).holder (l % layout.partitions) ≡ l
  pub slots : (layout : Layout) (start : Words) (book : Book E) (keeper : LogKeeper) (region : Region) (spare events : ℕ) →
      IsStateOf layout start book keeper region spare events → length keeper.slots.items ≡ layout.partitions

-- ---- memory

abbrev pub EventsAreOwed : Type 0 → Type 0
EventsAreOwed E = (layout : Layout) (start : Words) (book : Book E) (keeper : LogKeeper) (region : Region) (spare events l : ℕ) → l < length book.lanes.items →
    makes_events (stage_of (lane_at book l)) ≡ true → IsStateOf layout start book keeper region spare events → (1 ≤ (lane_at book l).owed_events) × (1 ≤ spare)

abbrev pub RecordsAreOwed : Type 0 → Type 0
RecordsAreOwed E = (layout : Layout) (start : Words) (book : Book E) (keeper : LogKeeper) (region : Region) (spare events l : ℕ) → l < length book.lanes.items →
    appends_in (stage_of (lane_at book l)) ≡ true → (keeping_of keeper).holder (l % layout.partitions) ≡ NOBODY → IsStateOf layout start book keeper region spare events →
    (1 ≤ (lane_at book l).owed_records) × (1 ≤ free_places keeper)

-- The lists have memory for the gates of a closing that begins behind the last event of the end's append, and of that one's.
pub record ListsAreKept (E : Type 0) : Type 0 where
  pub records : (layout : Layout) (start : Words) (book : Book E) (keeper : LogKeeper) (region : Region) (spare events l : ℕ) → l < length book.lanes.items →
      stage_of (lane_at book l) ≡ Ending → AreLeft layout keeper (l % layout.partitions) 1 → (keeping_of keeper).holder (l % layout.partitions) ≡ l →
      IsStateOf layout start book keeper region spare events →
      HasRoomIn keeper.slots.items (l % layout.partitions) (length (gates_in (lane_at book l).transaction false (made_in layout keeper (l % layout.partitions)).ledger))
  pub ends : (layout : Layout) (start : Words) (book : Book E) (keeper : LogKeeper) (region : Region) (spare events l : ℕ) → l < length book.lanes.items →
      stage_of (lane_at book l) ≡ Closing → AreLeft layout keeper (l % layout.partitions) 1 → IsStateOf layout start book keeper region spare events →
      HasRoomIn keeper.slots.items (l % layout.partitions) (length (gates_in (lane_at book l).transaction true (made_in layout keeper (l % layout.partitions)).ledger))

-- ---- numbers

pub record HasSmallNumbers {E : Type 0} (book : Book E) (keeper : LogKeeper) : Type 0 where
  pub records : keeper.next_lsn < 2 ^ 63
  pub transactions : book.next_transaction < 2 ^ 64 - 1
  pub commits : (l : ℕ) → (lane_at book l).commits < 2 ^ 60
  pub stored : (l : ℕ) → (stage_of (lane_at book l) ≡ Storing) → (lane_at book l).stored < 2 ^ 62

-- the device counts with 64 bits
abbrev pub NumbersAreSmall : Type 0 → Type 0
NumbersAreSmall E = (layout : Layout) (start : Words) (book : Book E) (keeper : LogKeeper) (region : Region) (spare events : ℕ) → events < 2 ^ 64 →
    IsStateOf layout start book keeper region spare events → HasSmallNumbers book keeper

-- ---- words

-- The newest words, as a device reads them, have a list for each partition.
pub record HasLogs (layout : Layout) (words : List ℕ) : Type 0 where
  pub long : length words ≡ words_of_shape (layout_shape layout)
  pub logs : (p : ℕ) (part : Buckets) → p < layout.partitions → IsPartition (layout_shape layout) p part →
      IsLogOfPart layout part (length (viewed p words)) (slice_index (viewed p words))

abbrev pub NewestHaveLogs : Type 0 → Type 0
NewestHaveLogs E = (layout : Layout) (start : Words) (book : Book E) (keeper : LogKeeper) (region : Region) (spare events : ℕ) →
    ((a : ℕ) → 0 < length (region.at a)) → IsStateOf layout start book keeper region spare events → HasLogs layout (newest_words region)

-- the next place, the room, and the next removal, as the view's words have them
abbrev pub IsNextPlaceSeen : Layout → ℕ → List ℕ → Place → Type 0
IsNextPlaceSeen layout p words place =
    let w = slice_index (viewed p words) in IsNextPlace (layout_shape layout) p w (chain_of (layout_shape layout) w) place

abbrev pub room_seen : Layout → ℕ → List ℕ → ℕ
room_seen layout p words = room_of (layout_shape layout) (slice_index (viewed p words)) p (chain_of (layout_shape layout) (slice_index (viewed p words)))

abbrev pub IsRemovalSeen : Layout → ℕ → List ℕ → Remove → Type 0
IsRemovalSeen layout p words r =
    let w = slice_index (viewed p words) in IsRemovalOf (layout_shape layout) w (chain_of (layout_shape layout) w) (Some r)

-- What is read of the view of them is what laws say of the region: a place, which is there where a lane waits to append; a removal; and the room.
pub record ViewsAreRead (E : Type 0) : Type 0 where
  pub place : (layout : Layout) (start : Words) (book : Book E) (keeper : LogKeeper) (region : Region) (spare events p : ℕ) (place : Place) → p < layout.partitions →
      ((a : ℕ) → 0 < length (region.at a)) → IsStateOf layout start book keeper region spare events →
      IsNextPlaceSeen layout p (newest_words region) place → IsPlaceRead layout p region place
  pub some : (layout : Layout) (start : Words) (book : Book E) (keeper : LogKeeper) (region : Region) (spare events l : ℕ) → l < length book.lanes.items →
      ((a : ℕ) → 0 < length (region.at a)) → appends_in (stage_of (lane_at book l)) ≡ true → (keeping_of keeper).holder (l % layout.partitions) ≡ NOBODY →
      IsStateOf layout start book keeper region spare events → room_seen layout (l % layout.partitions) (newest_words region) ≢ 0
  pub room : (layout : Layout) (start : Words) (book : Book E) (keeper : LogKeeper) (region : Region) (spare events p : ℕ) → p < layout.partitions →
      ((a : ℕ) → 0 < length (region.at a)) → IsStateOf layout start book keeper region spare events →
      IsRoomAt (layout_shape layout) p (newest_image region) (room_seen layout p (newest_words region))
  pub removal : (layout : Layout) (start : Words) (book : Book E) (keeper : LogKeeper) (region : Region) (spare events p : ℕ) (r : Remove) → p < layout.partitions →
      ((a : ℕ) → 0 < length (region.at a)) → IsStateOf layout start book keeper region spare events →
      IsRemovalSeen layout p (newest_words region) r → IsRemovalRead layout p region r

-- ---- the lane

-- the next write, of a word that a lane may write
pub record HasWrite {E : Type 0} (layout : Layout) (lane : Lane E) (n : ℕ) (w : WordWrite) : Type 0 where
  pub write : slice_get lane.writes.items n ≡ Some w
  pub written_word : IsWrittenWord (layout_shape layout) w.address

-- What the lane's calls ask of its book at each stage.
pub record LanesAreReady (E : Type 0) : Type 0 where
  pub updates : (layout : Layout) (start : Words) (book : Book E) (keeper : LogKeeper) (region : Region) (spare events l : ℕ) → l < length book.lanes.items →
      stage_of (lane_at book l) ≡ Naming → AreLeft layout keeper (l % layout.partitions) 2 ⊎ ((keeping_of keeper).holder (l % layout.partitions) ≡ NOBODY) →
      ((keeping_of keeper).holder (l % layout.partitions) ≡ l) ⊎ ((keeping_of keeper).holder (l % layout.partitions) ≡ NOBODY) →
      IsStateOf layout start book keeper region spare events → WaitsToAppend (lane_at book l)
  pub is_open : (layout : Layout) (start : Words) (book : Book E) (keeper : LogKeeper) (region : Region) (spare events l : ℕ) → l < length book.lanes.items →
      (stage_of (lane_at book l) ≡ Opening) ⊎ (stage_of (lane_at book l) ≡ Undoing) ⊎ (stage_of (lane_at book l) ≡ Ending) →
      AreLeft layout keeper (l % layout.partitions) 2 → (keeping_of keeper).holder (l % layout.partitions) ≡ l →
      IsStateOf layout start book keeper region spare events → IsOpen (lane_at book l)
  pub unrolled : (layout : Layout) (start : Words) (book : Book E) (keeper : LogKeeper) (region : Region) (spare events l : ℕ) → l < length book.lanes.items →
      stage_of (lane_at book l) ≡ Opening → AreLeft layout keeper (l % layout.partitions) 2 → (keeping_of keeper).holder (l % layout.partitions) ≡ l →
      IsStateOf layout start book keeper region spare events → (lane_at book l).rolled ≡ false
  pub some_update : (layout : Layout) (start : Words) (book : Book E) (keeper : LogKeeper) (region : Region) (spare events l : ℕ) → l < length book.lanes.items →
      stage_of (lane_at book l) ≡ Undoing → AreLeft layout keeper (l % layout.partitions) 2 ⊎ ((keeping_of keeper).holder (l % layout.partitions) ≡ NOBODY) →
      ((keeping_of keeper).holder (l % layout.partitions) ≡ l) ⊎ ((keeping_of keeper).holder (l % layout.partitions) ≡ NOBODY) →
      IsStateOf layout start book keeper region spare events → 1 ≤ length (lane_at book l).updates.items
  pub to_store : (layout : Layout) (start : Words) (book : Book E) (keeper : LogKeeper) (region : Region) (spare events l : ℕ) → l < length book.lanes.items →
      (stage_of (lane_at book l) ≡ Naming) ⊎ (stage_of (lane_at book l) ≡ Storing) → IsStateOf layout start book keeper region spare events →
      (w : WordWrite) × HasWrite layout (lane_at book l) (lane_at book l).stored w
  pub to_take_back : (layout : Layout) (start : Words) (book : Book E) (keeper : LogKeeper) (region : Region) (spare events l : ℕ) → l < length book.lanes.items →
      stage_of (lane_at book l) ≡ TakingBack → IsStateOf layout start book keeper region spare events →
      (w : WordWrite) × HasWrite layout (lane_at book l) ((lane_at book l).stored - 1) w × (1 ≤ (lane_at book l).stored) ×
      (r : Record) × IsLatest (IsChangeBy (lane_at book l).transaction w.address) (settled_log (keeping_of keeper).ledger) r
