-- What the tests look at before they call the book.
use Rattle.std.specs.Prelude.{◌≡◌, ℕ, ◌<◌, ◌≤◌, ◌^◌, List, length, get_or, true, None}
use Rattle.lane_types.specs.declared.call.Phase.{Phase}
use Rattle.lane_book.specs.declared.lane.Lane.{Lane}
use Rattle.lane_book.specs.declared.lane.Doing.{Doing}
use Rattle.lane_book.specs.declared.book.Book.{Book}
use Rattle.lane_book.specs.FacesOf.{lane_at}
use Rattle.lane_book.specs.Lanes.{point_at}
use Rattle.lane_book.specs.Appends.{writes_one, is_batch, gives_one, undoes}

-- The lane is one of the book's, in this phase, and no call is in progress.
pub record IsFree {E : Type 0} (phase : Phase) (book : Book E) (l : ℕ) : Type 0 where
  pub inside : l < length book.lanes.items
  pub phase_is : (lane_at book l).phase ≡ phase
  pub nothing : (lane_at book l).doing ≡ Doing.Nothing

-- the lane's counts are far from their greatest numbers
pub record IsSmall {E : Type 0} (lane : Lane E) : Type 0 where
  pub begun : lane.begun < 2 ^ 59
  pub commits : lane.commits < 2 ^ 60
  pub stored : lane.stored < 2 ^ 62

abbrev pub AreBelow : ℕ → List ℕ → Type 0
AreBelow n blocks = (k : ℕ) → k < length blocks → get_or blocks k 0 < n

-- It has begun a transaction, and the blocks that it gave are the heap's 16.
pub record MayCommit {E : Type 0} (lane : Lane E) : Type 0 where
  pub begun : 1 ≤ lane.begun
  pub gives : AreBelow 16 lane.gives.items

-- The savepoint is there, and just its writes are stored.
pub record MayReturn {E : Type 0} (n : ℕ) (lane : Lane E) : Type 0 where
  pub inside : n < length lane.points.items
  pub stored : lane.stored ≡ (point_at n lane).writes

pub record MayUpdate {E : Type 0} (lane : Lane E) : Type 0 where
  pub call : writes_one lane.doing ≡ true
  pub cells : 2 ≤ lane.promised

-- of two updates, with a cell more
pub record MayGroup {E : Type 0} (lane : Lane E) : Type 0 where
  pub call : is_batch lane.doing ≡ true
  pub cells : 5 ≤ lane.promised

pub record MayDelete {E : Type 0} (lane : Lane E) : Type 0 where
  pub call : gives_one lane.doing ≡ true
  pub cells : 1 ≤ lane.promised

pub record MayTakeBack {E : Type 0} (lane : Lane E) : Type 0 where
  pub call : undoes lane.doing ≡ true
  pub some : 1 ≤ lane.stored

-- the entry of its commit was handed out
pub record IsOut {E : Type 0} (lane : Lane E) : Type 0 where
  pub entered : lane.entered ≡ true
  pub out : lane.entry ≡ None
