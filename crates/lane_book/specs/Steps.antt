-- A step of one lane, over the faces of all, and what the book's calls ask for it.
use Rattle.std.specs.Prelude.{◌≡◌, ◌≢◌, ℕ, ◌+◌, ◌<◌, ◌≤◌, true, false, List, [], ◌∷◌, ◌++◌, length, take, Option, Some, None}
use Rattle.std.specs.List.{filter}
use Rattle.lane_types.specs.declared.call.Call.{Call}
use Rattle.lane_types.specs.declared.call.Stepped.{Stepped}
use Rattle.lane_types.specs.declared.face.Entry.{Entry}
use Rattle.lane_traits.specs.declared.draft.WordWrite.{WordWrite}
use Rattle.lane_types.specs.Deeds.{Deeds}
use Rattle.lane_types.specs.Heaps.{Holding, has_bit, block_address}
use Rattle.lane_types.specs.Histories.{Lawful, HaveSorts}
use Rattle.lane_types.specs.Faces.{Base, WholeFace}
use Rattle.lane_types.specs.LaneSteps.{LaneStep}
use Rattle.lane_book.specs.declared.lane.Lane.{Lane}
use Rattle.lane_book.specs.declared.lane.Doing.{Doing}
use Rattle.lane_book.specs.declared.lane.Point.{Point}
use Rattle.lane_book.specs.declared.book.Book.{Book}
use Rattle.lane_book.specs.Lanes.{asked_lane, point_at, with_lane, IsRoomier, has_room}
use Rattle.lane_book.specs.FacesOf.{lane_at, faces_of, is_of, front, begun_heap, words_of, waiting_writes, waiting_gives, call_of}

-- The lane's face changes by the row of the answer, and no other does.
pub record IsStep {E : Type 0} (deeds : Deeds E) (f g : ℕ → WholeFace E) (lane : ℕ) (answer : Stepped) : Type 0 where
  pub others : (other : ℕ) → other ≢ lane → g other ≡ f other
  pub step : LaneStep deeds answer (f lane) (g lane)

-- from one book to a later one, whatever stood at the start, or where this holds of what did
abbrev pub Steps : {E : Type 0} → Deeds E → Book E → Book E → ℕ → Stepped → Type 0
Steps deeds book later lane answer = (base : Base) → IsStep deeds (faces_of base book) (faces_of base later) lane answer

abbrev pub StepsIf : {E : Type 0} → (Base → Type 0) → Deeds E → Book E → Book E → ℕ → Stepped → Type 0
StepsIf holds deeds book later lane answer = (base : Base) → holds base → IsStep deeds (faces_of base book) (faces_of base later) lane answer

-- each transaction began behind some entries of the history
abbrev pub AreBehindHistory : {E : Type 0} → Book E → Type 0
AreBehindHistory book = (l : ℕ) → (lane_at book l).joined ≤ length book.history.items

-- the entry of a commit in progress is the lane's next
abbrev pub IsNextEntry : {E : Type 0} → ℕ → ℕ → Option (Entry E) → Type 0
IsNextEntry l begun None = ⊥
IsNextEntry l begun (Some e) = (e.lane ≡ l) × (begun ≡ e.number + 1)

pub record HasEntry {E : Type 0} (l : ℕ) (lane : Lane E) : Type 0 where
  pub next : IsNextEntry l lane.begun lane.entry
  pub new : lane.entered ≡ false

-- the entry of the commit in progress has joined the history
pub record HasEntered {E : Type 0} (book : Book E) (l : ℕ) : Type 0 where
  pub entered : (lane_at book l).entered ≡ true
  pub out : (lane_at book l).entry ≡ None
  pub mine : filter (is_of l) book.history.items ≢ []

-- nothing is left of an earlier transaction
pub record IsCleared {E : Type 0} (lane : Lane E) : Type 0 where
  pub writes : lane.writes.items ≡ []
  pub stored : lane.stored ≡ 0
  pub gives : lane.gives.items ≡ []
  pub points : lane.points.items ≡ []

-- the history is lawful from what stood at the start
pub record IsLawfulFrom {E : Type 0} (deeds : Deeds E) (history : List (Entry E)) (base : Base) : Type 0 where
  pub lawful : ∥ Lawful deeds base.heap history ∥₁
  pub sorts : HaveSorts deeds base.sorts history

-- ---- what the calls on words ask

-- The last of the lane's writes is this, and it alone isn't stored.
pub record IsNextStored {E : Type 0} (lane : Lane E) (w : WordWrite) : Type 0 where
  pub last : lane.writes.items ≡ front 1 lane.writes.items ++ w ∷ []
  pub stored : lane.stored + 1 ≡ length lane.writes.items

-- all of the lane's writes are stored
abbrev pub AreStored : {E : Type 0} → Lane E → Type 0
AreStored lane = lane.stored ≡ length lane.writes.items

-- what the lane holds
abbrev pub held_by : {E : Type 0} → Base → Book E → ℕ → Holding
held_by base book l = words_of (begun_heap base book.history.items (lane_at book l)) (lane_at book l)

-- The owner word is that of the block, which the lane neither has nor gave, and its structure is held.
pub record CanTake {E : Type 0} (book : Book E) (l s block a : ℕ) (base : Base) : Type 0 where
  pub address : a ≡ block_address base.heap block
  pub inside : block < base.heap.blocks
  pub held : has_bit (lane_at book l).held s ≡ true
  pub new : (held_by base book l).owner block ≡ None
  pub not_given : (held_by base book l).given block ≡ false

-- ---- an ask

-- The lane's face changes so, and no other does.
pub record IsAsk {E : Type 0} (change : WholeFace E → WholeFace E) (f g : ℕ → WholeFace E) (lane : ℕ) : Type 0 where
  pub others : (other : ℕ) → other ≢ lane → g other ≡ f other
  pub face : g lane ≡ change (f lane)

abbrev pub Asks : {E : Type 0} → (WholeFace E → WholeFace E) → Book E → Book E → ℕ → Type 0
Asks change book later lane = (base : Base) → IsAsk change (faces_of base book) (faces_of base later) lane

-- each savepoint is of writes and gives that stand
abbrev pub AreWithin : ℕ → ℕ → List Point → Type 0
AreWithin writes gives [] = Unit {0}
AreWithin writes gives (p ∷ points) = (p.writes ≤ writes) × (p.gives ≤ gives) × AreWithin writes gives points

-- The savepoint is there, those below it are of no more than it is, and just its writes are stored.
pub record CanGoBack {E : Type 0} (n : ℕ) (lane : Lane E) : Type 0 where
  pub inside : n < length lane.points.items
  pub below : AreWithin (point_at n lane).writes (point_at n lane).gives (take n lane.points.items)
  pub writes : (point_at n lane).writes ≤ length lane.writes.items
  pub gives : (point_at n lane).gives ≤ length lane.gives.items
  pub stored : lane.stored ≡ (point_at n lane).writes

-- the lane is ready for a call: none is in progress, and all of its writes are stored
pub record IsReady {E : Type 0} (lane : Lane E) : Type 0 where
  pub nothing : lane.doing ≡ Doing.Nothing
  pub stored : AreStored lane
  pub points : AreWithin (length lane.writes.items) (length lane.gives.items) lane.points.items

-- The call is the lane's: so many writes and gives more are of it, so many cells are promised to it, and what the lists have
-- room for may be more.
pub record AsksFor {E : Type 0} (lane : Lane E) (call : Call E) (doing : Doing) (writes : List WordWrite) (gives : List ℕ) (promised : ℕ) (later : Lane E) : Type 0 where
  pub is : later ≡ record (asked_lane call doing promised lane) {
    writes = later.writes;
    updates = later.updates;
    gives = later.gives;
    gates = later.gates;
    taken = later.taken;
    untaken = later.untaken;
    points = later.points;
    entry = later.entry;
  }
  pub writes_more : later.writes.items ≡ lane.writes.items ++ writes
  pub gives_more : later.gives.items ≡ lane.gives.items ++ gives
  pub updates_stay : later.updates.items ≡ lane.updates.items
  pub points_stay : later.points.items ≡ lane.points.items
  pub waiting : waiting_writes doing ≡ length writes
  pub waiting_given : waiting_gives doing ≡ length gives
  pub told : (mine : List (Entry E)) → call_of mine later.entry later.writes.items doing ≡ Some call

-- a savepoint wants a place for its point
abbrev pub points_of : Doing → ℕ
points_of Doing.Savepoint = 1
points_of _ = 0

-- Beside that its entry and gates are as they were, and there is room for what the call puts into the lists: an update for each
-- new write, a gate for each new give, and a savepoint.
pub record IsAskedOf {E : Type 0} (lane : Lane E) (call : Call E) (doing : Doing) (writes : List WordWrite) (gives : List ℕ) (promised : ℕ) (later : Lane E) : Type 0 where
  pub asks : AsksFor lane call doing writes gives promised later
  pub entry_stays : later.entry ≡ lane.entry
  pub gates_stay : later.gates.items ≡ lane.gates.items
  pub updates_fit : has_room (length writes) later.updates
  pub gates_fit : has_room (length gives) later.gates
  pub points_fit : has_room (points_of doing) later.points

-- In the book the lane alone is another.
pub record IsAskedIn {E : Type 0} (call : Call E) (doing : Doing) (writes : List WordWrite) (gives : List ℕ) (promised : ℕ) (book later : Book E) (l : ℕ) : Type 0 where
  pub is : later ≡ with_lane book l (lane_at later l) book.touched
  pub lane : IsAskedOf (lane_at book l) call doing writes gives promised (lane_at later l)

-- In the book the lane alone is another, whose lists may have more room.
pub record IsRoomierIn {E : Type 0} (book later : Book E) (l : ℕ) : Type 0 where
  pub is : later ≡ with_lane book l (lane_at later l) book.touched
  pub lane : IsRoomier (lane_at book l) (lane_at later l)

-- the call, and what the lane is about in it, where it adds no write and no give
pub data IsPlain {E : Type 0} : Call E → Doing → Type 0 where
  begin : {set : ℕ} → IsPlain (Call.Begin set) (Doing.Begin set)
  read : {a : ℕ} → IsPlain (Call.Read a) (Doing.Read a)
  abort : IsPlain Call.Abort Doing.Abort
  checkpoint : IsPlain Call.Checkpoint Doing.Checkpoint
  savepoint : IsPlain Call.Savepoint Doing.Savepoint
  rollback : {n : ℕ} → IsPlain (Call.RollbackTo n) (Doing.RollbackTo n)
