-- What an ask leaves of the state and of the faces, and how it is answered.
use Rattle.std.specs.Prelude.{◌≡◌, ◌⊎◌, ℕ, ◌%◌, ◌<◌, ◌≤◌, true, List, length}
use Rattle.persist_model.specs.Region.{Region}
use Rattle.lane_traits.specs.Device.{Counts}
use Rattle.region_layout.specs.declared.layout.Layout.{Layout}
use Rattle.region_layout.specs.Layout.{layout_shape, IsDataWord}
use Rattle.lane_types.specs.declared.call.Call.{Call}
use Rattle.lane_types.specs.declared.call.Call.TheVariants.{Begin, Read, Write, Take, Give, Commit, Abort, Checkpoint, Batch, Savepoint, RollbackTo}
use Rattle.lane_types.specs.declared.call.Refusal.{Refusal}
use Rattle.lane_types.specs.declared.call.Refusal.TheVariants.{LogFull}
use Rattle.lane_types.specs.Deeds.{Deeds}
use Rattle.lane_types.specs.Faces.{Base, WholeFace}
use Rattle.lane_types.specs.Asks.{Fits, Why, asked, refused, wanted, is_logged, is_take}
use Rattle.lane_types.specs.May.{May}
use Rattle.lane_book.specs.declared.book.Book.{Book}
use Rattle.lane_book.specs.declared.lane.Doing.{Doing}
use Rattle.lane_book.specs.FacesOf.{lane_at, faces_of}
use Rattle.lane_book.specs.Lanes.{owing, refused_lane, IsRoomier}
use Rattle.lane_book.specs.Refusals.{names_mine, NoneIsFree}
use Rattle.lane_book.specs.Reserved.{reserved_in, needed_by}
use Rattle.lane_book.specs.Steps.{Asks}
use Rattle.log_keeper.specs.declared.keeper.LogKeeper.{LogKeeper}
use Rattle.log_keeper.specs.Keeper.{free_places}
use Rattle.txn_state.specs.Changes.{GoesTo}
use Rattle.txn_state.specs.ReadLaws.{room_seen}
use Rattle.txn_state.specs.Stages.{Between, stage_of}
use Rattle.txn_core.specs.Phases.{ArePhased}
use Rattle.txn_core.specs.States.{IsKept}

-- ---- what may be asked

-- the calls that are built
abbrev pub IsBuilt : {E : Type 0} → Call E → Type 0
IsBuilt (Begin set) = Unit {0}
IsBuilt (Read a) = Unit {0}
IsBuilt (Write a v) = Unit {0}
IsBuilt (Take s) = Unit {0}
IsBuilt (Give block) = ⊥
IsBuilt (Commit deed) = Unit {0}
IsBuilt Abort = Unit {0}
IsBuilt Checkpoint = Unit {0}
IsBuilt (Batch writes) = ⊥
IsBuilt Savepoint = ⊥
IsBuilt (RollbackTo n) = ⊥

-- ---- memory

-- The lane owes so much, which no face shows, and nothing else of the book is another.
pub record Owes {E : Type 0} (book later : Book E) (l events records : ℕ) : Type 0 where
  pub goes : GoesTo book later l (owing events records (lane_at book l))
  pub faces : (base : Base) (k : ℕ) → faces_of base later k ≡ faces_of base book k
  pub reserved : (partitions kept p : ℕ) → reserved_in later partitions kept p ≡ reserved_in book partitions kept p
  pub touched : later.touched ≡ book.touched
  pub stopped : later.stopped ≡ book.stopped

-- Device and keeper have no place less.
pub record HasNoLess (keeper kept : LogKeeper) (spare left : ℕ) : Type 0 where
  pub stores : spare ≤ left
  pub places : free_places keeper ≤ free_places kept

-- The state stays one where the lane is between its calls, whatever stood at the start.
abbrev pub StaysBetween : {E : Type 0} → Deeds E → Book E → Book E → LogKeeper → LogKeeper → Region → ℕ → ℕ → Counts → ℕ → Type 0
StaysBetween deeds book later keeper kept region spare left counts l = (layout : Layout) (base : Base) → stage_of (lane_at book l) ≡ Between →
    IsKept deeds layout base book keeper region spare counts → IsKept deeds layout base later kept region left counts

-- ---- what comes of an ask

-- The state stays one where the call fits the lane's face and may be asked, with the memory that was taken for it,
abbrev pub StaysTaken : {E : Type 0} → Deeds E → Layout → Call E → Book E → Book E → LogKeeper → LogKeeper → Region → ℕ → ℕ → Counts → ℕ → Type 0
StaysTaken deeds layout call book later keeper kept region spare left counts l = (base : Base) → Fits (faces_of base book l) call → May deeds (faces_of base book l) call →
    IsKept deeds layout base book keeper region spare counts → IsKept deeds layout base later kept region left counts

-- or whatever it was, where there is none.
abbrev pub StaysRefused : {E : Type 0} → Deeds E → Layout → Book E → Book E → LogKeeper → LogKeeper → Region → ℕ → ℕ → Counts → Type 0
StaysRefused deeds layout book later keeper kept region spare left counts = (base : Base) →
    IsKept deeds layout base book keeper region spare counts → IsKept deeds layout base later kept region left counts

-- The lane's face changes so, and beside it nothing that a face or a reader of words sees.
pub record ChangesFace {E : Type 0} (change : WholeFace E → WholeFace E) (book later : Book E) (l : ℕ) : Type 0 where
  pub asks : Asks change book later l
  pub many : length later.lanes.items ≡ length book.lanes.items
  pub touched : later.touched ≡ book.touched

-- The call is the lane's: the state is kept where the call fits the lane's face and may be asked, and lanes are calling as they should.
pub record IsAsked {E : Type 0} (deeds : Deeds E) (layout : Layout) (call : Call E) (book later : Book E) (keeper kept : LogKeeper) (region : Region) (spare left : ℕ) (counts : Counts) (l : ℕ) : Type 0 where
  pub stays : StaysTaken deeds layout call book later keeper kept region spare left counts l
  pub face : ChangesFace (asked call) book later l
  pub phased : ArePhased book → ArePhased later

-- No memory was there for it: the state is kept, and no face is another.
pub record LacksMemory {E : Type 0} (deeds : Deeds E) (layout : Layout) (book later : Book E) (keeper kept : LogKeeper) (region : Region) (spare left : ℕ) (counts : Counts) (l : ℕ) : Type 0 where
  pub stays : StaysRefused deeds layout book later keeper kept region spare left counts
  pub face : ChangesFace (λ face. face) book later l
  pub phased : ArePhased book → ArePhased later

-- And the lane's call isn't asked: its lists may have more room, where it is between its calls it may owe other numbers, and no block is taken.
pub record IsUnasked {E : Type 0} (book later : Book E) (keeper kept : LogKeeper) (spare left l : ℕ) : Type 0 where
  pub lists : IsRoomier (owing (lane_at later l).owed_events (lane_at later l).owed_records (lane_at book l)) (lane_at later l)
  pub owed : (stage_of (lane_at book l) ≡ Between)
      ⊎ (((lane_at later l).owed_events ≡ (lane_at book l).owed_events) × ((lane_at later l).owed_records ≡ (lane_at book l).owed_records))
  pub more : HasNoLess keeper kept spare left
  pub blocks : later.blocks ≡ book.blocks

-- how much room the log has for the lane, and how much its call needs
abbrev pub room_for : Layout → List ℕ → ℕ → ℕ
room_for layout words l = room_seen layout (l % layout.partitions) words

abbrev pub need_for : {E : Type 0} → Layout → Book E → ℕ → Call E → ℕ
need_for layout book l call = needed_by layout.cells book layout.partitions 0 l call

-- the word of a write is a data word of the heap, and a take is for a structure
abbrev pub WritesData : {E : Type 0} → Layout → Call E → Type 0
WritesData layout (Write a v) = IsDataWord (layout_shape layout) a
WritesData layout (Take s) = s < layout.structures
WritesData layout _ = Unit {0}

-- Nothing stands against the call but want of memory.
pub record CanBeAsked {E : Type 0} (layout : Layout) (book : Book E) (words : List ℕ) (l : ℕ) (call : Call E) : Type 0 where
  pub lane : l < length book.lanes.items
  pub nothing : (lane_at book l).doing ≡ Doing.Nothing
  pub phase : (lane_at book l).phase ≡ wanted call
  pub mine : names_mine layout book.blocks (lane_at book l) call ≡ true
  pub data_word : WritesData layout call
  pub room : is_logged call ≡ true → need_for layout book l call ≤ room_for layout words l
  pub free : is_take call ≡ true → NoneIsFree book.blocks → ⊥

-- ---- how an ask is answered

-- a full log is told with the room that it has, and what the call needs
abbrev pub IsExact : ℕ → ℕ → Refusal → Type 0
IsExact room need (LogFull r n) = (r ≡ room) × (n ≡ need)
IsExact room need _ = Unit {0}

-- The call fits the lane's face and is in progress.
pub record Accepts {E : Type 0} (base : Base) (call : Call E) (book later : Book E) (l : ℕ) : Type 0 where
  pub fits : Fits (faces_of base book l) call
  pub face : ChangesFace (asked call) book later l

-- The refusal has its cause. Of the lane only its tally is another, and its lists may have more room.
pub record Refuses {E : Type 0} (layout : Layout) (base : Base) (words : List ℕ) (call : Call E) (refusal : Refusal) (book later : Book E) (l : ℕ) : Type 0 where
  pub why : Why refusal (faces_of base book l) call
  pub exact : IsExact (room_for layout words l) (need_for layout book l call) refusal
  pub face : ChangesFace (refused call refusal) book later l
  pub lane : IsRoomier (refused_lane call refusal (lane_at book l)) (lane_at later l)

-- ---- calls that append nothing

-- a begin, a read or a checkpoint, and what the lane is about in it
pub data AppendsNothing {E : Type 0} : Call E → Doing → Type 0 where
  begin : {set : ℕ} → AppendsNothing (Call.Begin set) (Doing.Begin set)
  read : {a : ℕ} → AppendsNothing (Call.Read a) (Doing.Read a)
  checkpoint : AppendsNothing Call.Checkpoint Doing.Checkpoint

-- The state stays one, whatever it was,
abbrev pub StaysAlways : {E : Type 0} → Deeds E → Book E → Book E → Type 0
StaysAlways deeds book later = (layout : Layout) (base : Base) (keeper : LogKeeper) (region : Region) (spare : ℕ) (counts : Counts) →
    IsKept deeds layout base book keeper region spare counts → IsKept deeds layout base later keeper region spare counts

-- or where the call fits the lane's face and may be asked.
abbrev pub StaysAsked : {E : Type 0} → Deeds E → Call E → Book E → Book E → ℕ → Type 0
StaysAsked deeds call book later l = (layout : Layout) (base : Base) (keeper : LogKeeper) (region : Region) (spare : ℕ) (counts : Counts) →
    Fits (faces_of base book l) call → May deeds (faces_of base book l) call →
    IsKept deeds layout base book keeper region spare counts → IsKept deeds layout base later keeper region spare counts
