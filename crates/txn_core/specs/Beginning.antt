-- How a lane comes to append.
use Rattle.log_keeper.specs.declared.slots.TheConstants.{NOBODY}
use Rattle.std.specs.Prelude.{◌≡◌, ◌≢◌, ℕ, ◌%◌, List, Option, Some, None}
use Rattle.region_layout.specs.declared.cell.Cell.{Cell}
use Rattle.region_layout.specs.declared.layout.Layout.{Layout}
use Rattle.bucket_log.specs.declared.append.Place.{Place}
use Rattle.lane_book.specs.declared.book.Book.{Book}
use Rattle.lane_book.specs.FacesOf.{lane_at}
use Rattle.lane_book.specs.Lanes.{with_lane, paid_record}
use Rattle.log_keeper.specs.declared.keeper.LogKeeper.{LogKeeper}
use Rattle.log_keeper.specs.Keeper.{keeping_of}
use Rattle.txn_state.specs.Changes.{HasDrawn}
use Rattle.txn_state.specs.AppendLaws.{latched_append}
use Rattle.txn_state.specs.ReadLaws.{IsNextPlaceSeen}

-- Another lane holds the latch; or the lane does already; or it took it, and began the append of the cell at the next place.
pub data Begins {E : Type 0} (layout : Layout) (keeper later : LogKeeper) (book after : Book E) (words : List ℕ) (l : ℕ) (cell : Cell) : Option ℕ → Type 0 where
  waits : (h : ℕ) → (keeping_of keeper).holder (l % layout.partitions) ≡ h → h ≢ NOBODY → h ≢ l → later ≡ keeper → after ≡ book →
      Begins layout keeper later book after words l cell (Some h)
  holds : (keeping_of keeper).holder (l % layout.partitions) ≡ l → later ≡ keeper → after ≡ book → Begins layout keeper later book after words l cell None
  begins : (place : Place) → (keeping_of keeper).holder (l % layout.partitions) ≡ NOBODY → IsNextPlaceSeen layout (l % layout.partitions) words place →
      HasDrawn keeper later (latched_append (l % layout.partitions) l place cell keeper) → after ≡ with_lane book l (paid_record (lane_at book l)) book.touched →
      Begins layout keeper later book after words l cell None
