-- What holds of the book between its calls.
use Rattle.std.specs.Prelude.{◌≡◌, ℕ, ◌+◌, ◌<◌, ◌≤◌, Bool, true, false, List, [], ◌∷◌, ◌++◌, length, take, get_or, None}
use Rattle.lane_traits.specs.declared.draft.WordWrite.{WordWrite}
use Rattle.lane_types.specs.declared.call.Phase.TheVariants.{Out, Calling}
use Rattle.offset_alloc.specs.declared.Standing.{Standing}
use Rattle.lane_book.specs.declared.lane.Lane.{Lane}
use Rattle.lane_book.specs.declared.lane.Doing.{Doing}
use Rattle.lane_book.specs.declared.lane.Point.{Point}
use Rattle.lane_book.specs.declared.book.Book.{Book}
use Rattle.lane_book.specs.FacesOf.{lane_at, idle_lane, front, standing_writes, standing_gives}
use Rattle.lane_book.specs.Lanes.{no_point}
use Rattle.lane_book.specs.Steps.{AreWithin}

-- nothing is left of an earlier transaction
pub record AreEmptied (stored : ℕ) (writes : List WordWrite) (gives : List ℕ) (points : List Point) : Type 0 where
  pub writes_gone : writes ≡ []
  pub stored_gone : stored ≡ 0
  pub gives_gone : gives ≡ []
  pub points_gone : points ≡ []

-- so many of the last writes may wait to be stored
pub record AreStoredBut (n stored : ℕ) (writes : List WordWrite) : Type 0 where
  pub some : n ≤ length writes
  pub most : stored ≤ length writes
  pub others : length writes ≤ stored + n

-- the last write is this, and it alone waits
pub record IsLastOf (w : WordWrite) (stored : ℕ) (writes : List WordWrite) : Type 0 where
  pub last : writes ≡ front 1 writes ++ w ∷ []
  pub others : stored + 1 ≡ length writes

pub record IsGiving (block stored : ℕ) (writes : List WordWrite) (gives : List ℕ) : Type 0 where
  pub all : stored ≡ length writes
  pub last : gives ≡ front 1 gives ++ block ∷ []

-- what is so of the lists of a lane that is about this
abbrev pub IsAbout : ℕ → List WordWrite → List ℕ → List Point → Doing → Type 0
IsAbout stored writes gives points Doing.Nothing = stored ≡ length writes
IsAbout stored writes gives points (Doing.Begin set) = AreEmptied stored writes gives points
IsAbout stored writes gives points (Doing.Read a) = stored ≡ length writes
IsAbout stored writes gives points (Doing.Write a v) = IsLastOf (record { address = a; value = v }) stored writes
IsAbout stored writes gives points (Doing.Take s block) = AreStoredBut 1 stored writes
IsAbout stored writes gives points (Doing.Give block) = IsGiving block stored writes gives
IsAbout stored writes gives points Doing.Commit = stored ≡ length writes
IsAbout stored writes gives points Doing.Abort = stored ≤ length writes
IsAbout stored writes gives points Doing.Checkpoint = AreEmptied stored writes gives points
IsAbout stored writes gives points (Doing.Batch n) = AreStoredBut n stored writes
IsAbout stored writes gives points Doing.Savepoint = stored ≡ length writes
IsAbout stored writes gives points (Doing.RollbackTo n) = stored ≤ length writes

-- as the lane is
abbrev pub IsAboutIt : {E : Type 0} → Lane E → Doing → Type 0
IsAboutIt lane doing = IsAbout lane.stored lane.writes.items lane.gives.items lane.points.items doing

abbrev pub IsEmptied : {E : Type 0} → Lane E → Type 0
IsEmptied lane = AreEmptied lane.stored lane.writes.items lane.gives.items lane.points.items

-- each savepoint is of no more than those behind it
abbrev pub AreRising : List Point → Type 0
AreRising points = (n : ℕ) → n < length points → AreWithin (get_or points n no_point).writes (get_or points n no_point).gives (take n points)

-- a call that ends the transaction
abbrev pub ends : Doing → Bool
ends Doing.Commit = true
ends Doing.Abort = true
ends _ = false

-- Without a record there is nothing to undo, only a call that ends the transaction has its end stored, and without a call no
-- cell is promised.
pub record IsCounted (has_records rolled ended : Bool) (updates promised : ℕ) (doing : Doing) : Type 0 where
  pub fresh : has_records ≡ false → (updates ≡ 0) × (rolled ≡ false)
  pub going : ends doing ≡ false → ended ≡ false
  pub unpromised : doing ≡ Doing.Nothing → promised ≡ 0

-- a call is in progress
abbrev pub is_asked : Doing → Bool
is_asked Doing.Nothing = false
is_asked _ = true

-- The transaction began behind some of so many entries, its savepoints rise and are of writes and gives that stand, its lists are
-- as the call in progress has them, and so are the cells that it has reserved. Outside of one the lists are empty. A lane whose
-- call is in progress is calling.
pub record IsLane {E : Type 0} (entries : ℕ) (lane : Lane E) : Type 0 where
  pub behind : lane.joined ≤ entries
  pub points : AreWithin (length (standing_writes lane)) (length (standing_gives lane)) lane.points.items
  pub rising : AreRising lane.points.items
  pub about : IsAboutIt lane lane.doing
  pub cells : IsCounted lane.has_records lane.rolled lane.ended (length lane.updates.items) lane.promised lane.doing
  pub out : lane.phase ≡ Out → IsEmptied lane
  pub calling : is_asked lane.doing ≡ true → lane.phase ≡ Calling

abbrev pub IsBook : {E : Type 0} → Book E → Type 0
IsBook book = (l : ℕ) → IsLane (length book.history.items) (lane_at book l)

-- So many lanes before their first calls, with these blocks and sorts, and no commit.
pub record IsFresh {E : Type 0} (lanes : ℕ) (blocks : List Standing) (sorts : List ℕ) (book : Book E) : Type 0 where
  pub many : length book.lanes.items ≡ lanes
  pub idle : (l : ℕ) → lane_at book l ≡ idle_lane
  pub none_joined : book.history.items ≡ []
  pub none_flies : book.flight.items ≡ []
  pub room : 16 ≤ book.flight.capacity
  pub stand : book.blocks ≡ blocks
  pub common : book.sorts ≡ sorts
  pub next : book.next_transaction ≡ 1
  pub going : book.stopped ≡ false
  pub untouched : book.touched ≡ None
