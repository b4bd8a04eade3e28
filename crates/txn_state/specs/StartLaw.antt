-- The state where a world begins.
use Rattle.std.specs.Prelude.{◌≡◌, ◌≢◌, ℕ, ◌<◌, ◌≤◌, List, [], length}
use Rattle.persist_model.specs.Region.{Words, Region}
use Rattle.persist_model.specs.Shape.{heap_words}
use Rattle.persist_model.specs.State.{State}
use Rattle.region_layout.specs.declared.layout.Layout.{Layout}
use Rattle.region_layout.specs.Layout.{layout_shape}
use Rattle.lane_book.specs.declared.book.Book.{Book}
use Rattle.lane_book.specs.FacesOf.{lane_at, idle_lane}
use Rattle.lane_book.specs.Books.{IsBook}
use Rattle.lane_book.specs.Refusals.{AreStructures}
use Rattle.log_keeper.specs.declared.keeper.LogKeeper.{LogKeeper}
use Rattle.log_keeper.specs.Keeper.{keeping_of}
use Rattle.log_keeper.specs.Starting.{starting}
use Rattle.txn_laws.specs.StartLaws.{IsStartingRegion}
use Rattle.txn_state.specs.States.{IsStateOf}

-- No lane has begun anything, and the blocks are the layout's.
pub record IsFreshBook {E : Type 0} (layout : Layout) (book : Book E) : Type 0 where
  pub some : 1 ≤ length book.lanes.items
  pub few : length book.lanes.items ≤ 16
  pub idle : (l : ℕ) → lane_at book l ≡ idle_lane
  pub no_history : book.history.items ≡ []
  pub first : book.next_transaction ≡ 1
  pub blocks : length book.blocks ≡ layout.blocks
  pub structures : AreStructures book.blocks
  pub kept : IsBook book

-- Nothing is under way, and the first record is to have the number 1.
pub record IsFreshKeeper (layout : Layout) (keeper : LogKeeper) : Type 0 where
  pub kept : keeping_of keeper ≡ starting []
  pub number : keeper.next_lsn ≡ 1
  pub slots : length keeper.slots.items ≡ layout.partitions

-- A settled region at rest with an empty log is where a world under force begins, with the heap of its words.
abbrev pub StatesStart : Type 0 → Type 0
StatesStart E = (layout : Layout) (base : Words) (s : State) (chains : ℕ → List ℕ) (book : Book E) (keeper : LogKeeper) (region : Region) (spare events : ℕ) →
    (layout_shape layout).policy ≢ 2 → IsStartingRegion (layout_shape layout) base s chains region → ((a : ℕ) → a < region.size → 0 < length (region.at a)) →
    IsFreshBook layout book → IsFreshKeeper layout keeper → IsStateOf layout (heap_words (layout_shape layout) base) book keeper region spare events
