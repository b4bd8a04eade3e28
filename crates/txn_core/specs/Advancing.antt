-- A step of what a lane appends or closes, with its answer where the call goes on as it was.
use Rattle.log_keeper.specs.declared.slots.TheConstants.{NOBODY}
use Rattle.std.specs.Prelude.{◌≡◌, ◌≢◌, ℕ, ◌%◌, ◌<◌, ◌≤◌, ◌^◌, true, List, length, None}
use Rattle.persist_model.specs.Region.{Region}
use Rattle.lane_traits.specs.Device.{Counts}
use Rattle.region_layout.specs.declared.cell.Cell.{Cell}
use Rattle.region_layout.specs.declared.layout.Layout.{Layout}
use Rattle.lane_types.specs.declared.call.Stepped.{Stepped}
use Rattle.lane_types.specs.declared.call.What.TheVariants as What
use Rattle.lane_types.specs.Deeds.{Deeds}
use Rattle.lane_book.specs.declared.book.Book.{Book}
use Rattle.lane_book.specs.FacesOf.{lane_at}
use Rattle.lane_book.specs.Lanes.{moved, noted, with_lane}
use Rattle.lane_book.specs.Steps.{Steps}
use Rattle.lane_book.specs.Books.{IsBook}
use Rattle.lane_book.specs.Calls.{Moves}
use Rattle.log_keeper.specs.declared.keeper.LogKeeper.{LogKeeper}
use Rattle.log_keeper.specs.Fitting.{FitsLayout}
use Rattle.log_keeper.specs.Keeper.{keeping_of, free_places}
use Rattle.txn_state.specs.ReadLaws.{HasNextEvent, HasLogs, room_seen}
use Rattle.txn_core.specs.declared.advancing.Went.{Went}
use Rattle.txn_core.specs.declared.running.Ran.TheVariants as Ran
use Rattle.txn_core.specs.Running.{Runs, Pays}
use Rattle.txn_core.specs.Beginning.{Begins}

-- ---- what is asked

-- The lane has a part under way, whose next event it owes and the device has a place for.
pub record CanRun {E : Type 0} (layout : Layout) (keeper : LogKeeper) (region : Region) (spare : ℕ) (book : Book E) (l : ℕ) : Type 0 where
  pub holder : (keeping_of keeper).holder (l % layout.partitions) ≡ l
  pub fits : FitsLayout layout ((keeping_of keeper).runs (l % layout.partitions)).part
  pub next : HasNextEvent layout keeper region (l % layout.partitions)
  pub owed : 1 ≤ (lane_at book l).owed_events
  pub place : 1 ≤ spare

-- Where the latch of its partition is free, there is room for a record, which the lane owes and the ledger has a place for.
pub record CanBegin {E : Type 0} (layout : Layout) (keeper : LogKeeper) (words : List ℕ) (book : Book E) (l : ℕ) : Type 0 where
  pub lane : l < length book.lanes.items
  pub slots : length keeper.slots.items ≡ layout.partitions
  pub logs : HasLogs layout words
  pub room : (keeping_of keeper).holder (l % layout.partitions) ≡ NOBODY → room_seen layout (l % layout.partitions) words ≢ 0
  pub owed : (keeping_of keeper).holder (l % layout.partitions) ≡ NOBODY → 1 ≤ (lane_at book l).owed_records
  pub places : (keeping_of keeper).holder (l % layout.partitions) ≡ NOBODY → 1 ≤ free_places keeper
  pub numbers : keeper.next_lsn < 2 ^ 63

-- Once the append is begun, its next event can be made.
abbrev pub RunsBehind : {E : Type 0} → Layout → LogKeeper → List ℕ → Region → ℕ → Book E → ℕ → Cell → Type 0
RunsBehind layout keeper words region spare book l cell =
    (mid : LogKeeper) (between : Book _) → Begins layout keeper mid book between words l cell None → CanRun layout mid region spare between l

-- ---- what comes of it

-- The device has stopped, which the lane is told.
pub record Stops {E : Type 0} (deeds : Deeds E) (book later : Book E) (l : ℕ) : Type 0 where
  pub is : later ≡ record (with_lane book l (noted Stepped.Stopped (lane_at book l)) None) { stopped = true }
  pub step : Steps deeds book later l Stepped.Stopped
  pub kept : IsBook later

-- The event is made or not, and where the part goes on the lane's call does so at the same part of its plan.
pub data Advances {E : Type 0} (deeds : Deeds E) (layout : Layout) (keeper later : LogKeeper) (region behind : Region) (counts after : Counts) (spare left : ℕ) (book next : Book E) (l : ℕ) : Went → Type 0 where
  stopped : (between : Book E) → Runs layout keeper later region behind counts after l spare left Ran.Stopped → Pays book between l Ran.Stopped → Stops deeds between next l →
      Advances deeds layout keeper later region behind counts after spare left book next l (Went.Answered Stepped.Stopped)
  going : (between : Book E) → Runs layout keeper later region behind counts after l spare left Ran.Going → Pays book between l Ran.Going →
      Moves deeds between next l None Stepped.Moved (moved (lane_at between l).part (lane_at between l)) →
      Advances deeds layout keeper later region behind counts after spare left book next l (Went.Answered Stepped.Moved)
  stored : (c : Cell) → Runs layout keeper later region behind counts after l spare left (Ran.Stored c) → Pays book next l (Ran.Stored c) →
      Advances deeds layout keeper later region behind counts after spare left book next l (Went.Stored c)
  whole : Runs layout keeper later region behind counts after l spare left Ran.Whole → Pays book next l Ran.Whole →
      Advances deeds layout keeper later region behind counts after spare left book next l Went.Whole

-- The lane waits for the latch, and no event is made.
pub record WaitsForLatch {E : Type 0} (deeds : Deeds E) (layout : Layout) (keeper : LogKeeper) (book next : Book E) (l holder : ℕ) : Type 0 where
  pub held : (keeping_of keeper).holder (l % layout.partitions) ≡ holder
  pub some : holder ≢ NOBODY
  pub other : holder ≢ l
  pub moves : Moves deeds book next l None (Stepped.Waiting (What.Latch (l % layout.partitions)) holder)
      (noted (Stepped.Waiting (What.Latch (l % layout.partitions)) holder) (lane_at book l))

-- nothing of the device is another
pub record IsSameDevice (region behind : Region) (counts after : Counts) (spare left : ℕ) : Type 0 where
  pub region_stays : behind ≡ region
  pub counts_stay : after ≡ counts
  pub spare_stays : left ≡ spare

-- It waits; or the append is begun or was before, and an event more of it is made or not.
pub data Appends {E : Type 0} (deeds : Deeds E) (layout : Layout) (keeper later : LogKeeper) (words : List ℕ) (region behind : Region) (counts after : Counts) (spare left : ℕ) (book next : Book E) (l : ℕ) (cell : Cell) (went : Went) : Type 0 where
  waits : (holder : ℕ) → went ≡ Went.Answered (Stepped.Waiting (What.Latch (l % layout.partitions)) holder) → WaitsForLatch deeds layout keeper book next l holder →
      later ≡ keeper → IsSameDevice region behind counts after spare left → Appends deeds layout keeper later words region behind counts after spare left book next l cell went
  runs : (mid : LogKeeper) (between : Book E) → Begins layout keeper mid book between words l cell None →
      Advances deeds layout mid later region behind counts after spare left between next l went → Appends deeds layout keeper later words region behind counts after spare left book next l cell went
