-- The state of a world of lanes under force.
use Rattle.std.specs.Prelude.{◌≡◌, ℕ, ◌+◌, ◌≤◌, true, false, List, length, None, not, ◌&&◌, if◌then◌else◌}
use Rattle.persist_model.specs.Region.{Words, Region}
use Rattle.persist_model.specs.State.{State}
use Rattle.region_layout.specs.declared.layout.Layout.{Layout}
use Rattle.region_layout.specs.Layout.{layout_shape}
use Rattle.lane_book.specs.declared.book.Book.{Book}
use Rattle.lane_book.specs.declared.lane.Lane.{Lane}
use Rattle.lane_book.specs.FacesOf.{lane_at}
use Rattle.lane_book.specs.Steps.{HasEntry, HasEntered}
use Rattle.lane_book.specs.Books.{IsBook}
use Rattle.lane_book.specs.Refusals.{AreStructures}
use Rattle.lane_book.specs.Reserved.{reserved_in}
use Rattle.log_keeper.specs.declared.keeper.LogKeeper.{LogKeeper}
use Rattle.txn_laws.specs.Rooms.{IsRoomy, sum_below}
use Rattle.txn_laws.specs.Worlds.{World, IsWorldAt}
use Rattle.txn_state.specs.Stages.{is_commit}
use Rattle.txn_state.specs.Ties.{IsTied}
use Rattle.txn_state.specs.Owing.{IsOwing}
use Rattle.txn_state.specs.Numbers.{IsNumbered}

-- a commit in progress whose entry hasn't joined the history
abbrev pub is_joining : {E : Type 0} → Lane E → ℕ
is_joining lane = if is_commit lane.doing && not lane.entered then 1 else 0

-- no commit is in progress, nor an entry of one
pub record HasNoEntry {E : Type 0} (lane : Lane E) : Type 0 where
  pub unentered : lane.entered ≡ false
  pub none : lane.entry ≡ None

-- The entry of a commit in progress is there until it has joined, and there is a place for each.
pub record AreEntries {E : Type 0} (book : Book E) : Type 0 where
  pub others : (l : ℕ) → is_commit (lane_at book l).doing ≡ false → HasNoEntry (lane_at book l)
  pub waits : (l : ℕ) → is_commit (lane_at book l).doing ≡ true → (lane_at book l).entered ≡ false → HasEntry l (lane_at book l)
  pub joined : (l : ℕ) → is_commit (lane_at book l).doing ≡ true → (lane_at book l).entered ≡ true → HasEntered book l
  pub places : length book.history.items + sum_below (λ l. is_joining (lane_at book l)) (length book.lanes.items) ≤ book.history.capacity

-- what holds of the book by itself
pub record IsWorldBook {E : Type 0} (layout : Layout) (book : Book E) : Type 0 where
  pub kept : IsBook book
  pub some : 1 ≤ length book.lanes.items
  pub few : length book.lanes.items ≤ 16
  pub blocks : length book.blocks ≡ layout.blocks
  pub structures : AreStructures book.blocks
  pub entries : AreEntries book

-- what is reserved in each partition
abbrev pub reserved_for : {E : Type 0} → Layout → Book E → ℕ → ℕ
reserved_for layout book p = reserved_in book layout.partitions 0 p

-- The book, the keeper and the region, whose device has made so many events and has so many places, are those of a plain world, with room for what
-- is reserved. The history began at the heap `start`. The number that is drawn next opens a gate.
pub record IsStateOf {E : Type 0} (layout : Layout) (start : Words) (book : Book E) (keeper : LogKeeper) (region : Region) (spare events : ℕ) : Type 0 where
  pub base : Words
  pub s : State
  pub chains : ℕ → List ℕ
  pub w : World
  pub world : IsWorldAt (layout_shape layout) base s chains start w region
  pub roomy : IsRoomy (layout_shape layout) region (reserved_for layout book)
  pub tied : IsTied layout book keeper s w
  pub owing : IsOwing (layout_shape layout) chains book keeper w spare
  pub numbered : IsNumbered layout.partitions book w events
  pub opens : 1 ≤ keeper.next_lsn
  pub is_book : IsWorldBook layout book
