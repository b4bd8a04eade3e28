-- What a step changes of a book, and of the places that are left.
use Rattle.std.specs.Prelude.{◌≡◌, ◌≢◌, ℕ, ◌+◌, ◌<◌, ◌≤◌, length, ◌++◌, ◌∷◌, [], slice_set}
use Rattle.offset_alloc.specs.declared.Standing.{Standing}
use Rattle.lane_types.specs.declared.face.Entry.{Entry}
use Rattle.lane_book.specs.declared.book.Book.{Book}
use Rattle.lane_book.specs.declared.lane.Lane.{Lane}
pub use Rattle.lane_book.specs.Lanes.{paid_event, paid_record}
use Rattle.lane_book.specs.FacesOf.{lane_at}
use Rattle.log_keeper.specs.declared.keeper.LogKeeper.{LogKeeper}
use Rattle.log_keeper.specs.Logged.{Keeping}
use Rattle.log_keeper.specs.Keeper.{keeping_of, KeepsSlots, free_places}

-- ---- the book

-- Lane l of the later book is this one, and nothing else is another but perhaps the history, the next number and the touched word.
pub record HasLane {E : Type 0} (book later : Book E) (l : ℕ) (lane : Lane E) : Type 0 where
  pub inside : l < length book.lanes.items
  pub count : length later.lanes.items ≡ length book.lanes.items
  pub here : lane_at later l ≡ lane
  pub others : (k : ℕ) → k ≢ l → lane_at later k ≡ lane_at book k
  pub blocks : later.blocks ≡ book.blocks

-- and the history and the next number are the same
pub record GoesTo {E : Type 0} (book later : Book E) (l : ℕ) (lane : Lane E) : Type 0 where
  pub lanes : HasLane book later l lane
  pub history : later.history ≡ book.history
  pub next : later.next_transaction ≡ book.next_transaction

-- and this entry has joined the history
pub record JoinsTo {E : Type 0} (book later : Book E) (l : ℕ) (lane : Lane E) (e : Entry E) : Type 0 where
  pub lanes : HasLane book later l lane
  pub items : later.history.items ≡ book.history.items ++ e ∷ []
  pub capacity : later.history.capacity ≡ book.history.capacity
  pub next : later.next_transaction ≡ book.next_transaction

-- the block stands so
abbrev pub with_block : {E : Type 0} → ℕ → Standing → Book E → Book E
with_block k standing book = record book { blocks = slice_set book.blocks k standing }

-- ---- the keeper

-- The keeper is this one by its plain data, with the same next number, and no list has less memory.
pub record IsKept (keeper later : LogKeeper) (k : Keeping) : Type 0 where
  pub kept : keeping_of later ≡ k
  pub number : later.next_lsn ≡ keeper.next_lsn
  pub places : free_places keeper ≤ free_places later
  pub slots : KeepsSlots keeper.slots.items later.slots.items

-- It has drawn a number, and has a place less.
pub record HasDrawn (keeper later : LogKeeper) (k : Keeping) : Type 0 where
  pub kept : keeping_of later ≡ k
  pub number : later.next_lsn ≡ keeper.next_lsn + 1
  pub places : free_places later + 1 ≡ free_places keeper
  pub slots : KeepsSlots keeper.slots.items later.slots.items
