-- What holds of a book between its calls is a proposition.
use Rattle.std.proofs.Common.{ℕ, List, [], ◌∷◌}
use Rattle.std.proofs.Props.{props}
use Rattle.lane_traits.specs.declared.draft.WordWrite.{WordWrite}
use Rattle.lane_book.specs.declared.lane.Lane.{Lane}
use Rattle.lane_book.specs.declared.lane.Point.{Point}
use Rattle.lane_book.specs.declared.lane.Doing.{Doing}
use Rattle.lane_book.specs.declared.book.Book.{Book}
use Rattle.lane_book.specs.Steps.{AreWithin}
use Rattle.lane_book.specs.Books.{IsAbout, IsLane, IsBook}

within_prop : (w g : ℕ) (points : List Point) → IsProp (AreWithin w g points)
within_prop w g [] = hlevel props
within_prop w g (p ∷ points) = hlevel (props, within_prop w g points)

about_prop : (stored : ℕ) (writes : List WordWrite) (gives : List ℕ) (points : List Point) (doing : Doing) → IsProp (IsAbout stored writes gives points doing)
about_prop stored writes gives points Doing.Nothing = hlevel props
about_prop stored writes gives points (Doing.Begin set) = hlevel props
about_prop stored writes gives points (Doing.Read a) = hlevel props
about_prop stored writes gives points (Doing.Write a v) = hlevel props
about_prop stored writes gives points (Doing.Take s block) = hlevel props
about_prop stored writes gives points (Doing.Give block) = hlevel props
about_prop stored writes gives points Doing.Commit = hlevel props
about_prop stored writes gives points Doing.Abort = hlevel props
about_prop stored writes gives points Doing.Checkpoint = hlevel props
about_prop stored writes gives points (Doing.Batch n) = hlevel props
about_prop stored writes gives points Doing.Savepoint = hlevel props
about_prop stored writes gives points (Doing.RollbackTo n) = hlevel props

pub lane_prop : {E : Type 0} (entries : ℕ) (lane : Lane E) → IsProp (IsLane entries lane)
lane_prop entries lane = hlevel (props, within_prop, about_prop)

pub book_prop : {E : Type 0} (book : Book E) → IsProp (IsBook book)
book_prop book = hlevel lane_prop
