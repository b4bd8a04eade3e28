-- What the book's functions ask of a lane whose call is in progress, and what a step of it leaves.
use Rattle.std.specs.Prelude.{◌≡◌, ℕ, ◌<◌, length, Option}
use Rattle.lane_types.specs.declared.call.Phase.{Phase}
use Rattle.lane_types.specs.declared.call.Stepped.{Stepped}
use Rattle.lane_types.specs.Deeds.{Deeds}
use Rattle.lane_book.specs.declared.lane.Lane.{Lane}
use Rattle.lane_book.specs.declared.lane.Doing.{Doing}
use Rattle.lane_book.specs.declared.book.Book.{Book}
use Rattle.lane_book.specs.Lanes.{with_lane}
use Rattle.lane_book.specs.FacesOf.{lane_at}
use Rattle.lane_book.specs.Steps.{Steps}
use Rattle.lane_book.specs.Books.{IsBook}

-- The lane is one of the book's, its call is in progress, and what holds of a book between its functions holds.
pub record IsCalling {E : Type 0} (book : Book E) (l : ℕ) : Type 0 where
  pub inside : l < length book.lanes.items
  pub calling : (lane_at book l).phase ≡ Phase.Calling
  pub kept : IsBook book

-- and this is its call
pub record IsDoing {E : Type 0} (doing : Doing) (book : Book E) (l : ℕ) : Type 0 where
  pub inside : l < length book.lanes.items
  pub calling : (lane_at book l).phase ≡ Phase.Calling
  pub call : (lane_at book l).doing ≡ doing
  pub kept : IsBook book

-- The lane is this one from then on, and the word that its step changed is `touched`. That is its step with this answer, and what holds of a book
-- between its functions still holds.
pub record Moves {E : Type 0} (deeds : Deeds E) (book later : Book E) (l : ℕ) (touched : Option ℕ) (answer : Stepped) (lane : Lane E) : Type 0 where
  pub is : later ≡ with_lane book l lane touched
  pub step : Steps deeds book later l answer
  pub kept : IsBook later
