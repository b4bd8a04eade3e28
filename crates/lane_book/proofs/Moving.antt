-- What a function of the book owes of a lane that it leaves so.
use Rattle.std.proofs.Common.{◌≡◌, ℕ, ◌<◌, length, Option}
use Rattle.lane_types.specs.declared.call.Stepped.{Stepped}
use Rattle.lane_types.specs.Deeds.{Deeds}
use Rattle.lane_book.specs.declared.lane.Lane.{Lane}
use Rattle.lane_book.specs.declared.book.Book.{Book}
use Rattle.lane_book.specs.Lanes.{with_lane}
use Rattle.lane_book.specs.FacesOf.{lane_at}
use Rattle.lane_book.specs.Steps.{Steps}
use Rattle.lane_book.specs.Books.{IsLane, IsBook}
use Rattle.lane_book.specs.Calls.{Moves}
use Rattle.lane_book.proofs.Rows.{steps_at}
use Rattle.lane_book.proofs.Keeps.{keeps_lane}

pub moves_so : {E : Type 0} (deeds : Deeds E) (book later : Book E) (l : ℕ) (touched : Option ℕ) (answer : Stepped) (lane : Lane E) → l < length book.lanes.items → IsBook book →
    later ≡ with_lane book l lane touched → Steps deeds book (with_lane book l lane touched) l answer →
    (IsLane (length book.history.items) (lane_at book l) → IsLane (length book.history.items) lane) → Moves deeds book later l touched answer lane
moves_so deeds book later l touched answer lane lt kept is steps keeps = record {
  is = is;
  step = steps_at deeds book (with_lane book l lane touched) later l answer is steps;
  kept = keeps_lane book later l lane touched lt is kept keeps;
}
