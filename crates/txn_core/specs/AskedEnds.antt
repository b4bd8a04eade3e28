-- What the ask of a call that ends a transaction leaves of the state, and of the book.
use Rattle.std.specs.Prelude.{◌≡◌, ℕ, ◌+◌, ◌≤◌, length}
use Rattle.region_layout.specs.declared.layout.Layout.{Layout}
use Rattle.lane_types.specs.declared.call.Call.{Call}
use Rattle.lane_types.specs.Asks.{asked}
use Rattle.lane_book.specs.declared.book.Book.{Book}
use Rattle.lane_book.specs.Appends.{ReservesNeed}
use Rattle.lane_book.specs.Books.{IsBook}
use Rattle.lane_book.specs.Entries.{committing, writes_of_entry}
use Rattle.lane_book.specs.FacesOf.{lane_at}
use Rattle.lane_book.specs.Lanes.{with_lane}
use Rattle.lane_book.specs.Steps.{Asks}
use Rattle.txn_state.specs.QuietLaws.{HasMorePlaces}

-- The lane's commit is asked, whose entry has its transaction's writes, in a book that has places for the entries of all lanes.
pub record IsCommitAsked {E : Type 0} (layout : Layout) (deed : E) (book later : Book E) (l : ℕ) : Type 0 where
  pub stocked : Book E
  pub places : HasMorePlaces book stocked
  pub room : length stocked.history.items + 16 ≤ stocked.history.capacity
  pub kept : IsBook stocked
  pub is : later ≡ with_lane stocked l (committing l deed (writes_of_entry layout (lane_at stocked l)) (lane_at stocked l)) stocked.touched
  pub ask : Asks (asked (Call.Commit deed)) stocked later l
  pub reserved : (k : ℕ) → ReservesNeed k (Call.Commit deed) stocked later l
