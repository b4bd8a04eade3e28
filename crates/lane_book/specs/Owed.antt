-- What the calls in progress of all lanes owe.
use Rattle.std.specs.Prelude.{ℕ, zero, suc, ◌+◌, length}
use Rattle.lane_book.specs.declared.lane.Lane.{Lane}
use Rattle.lane_book.specs.declared.book.Book.{Book}
use Rattle.lane_book.specs.FacesOf.{lane_at}

-- the sum of this number over the first n lanes
abbrev pub sum_below : {E : Type 0} → (Lane E → ℕ) → Book E → ℕ → ℕ
sum_below f book zero = 0
sum_below f book (suc n) = sum_below f book n + f (lane_at book n)

abbrev pub sum_of : {E : Type 0} → (Lane E → ℕ) → Book E → ℕ
sum_of f book = sum_below f book (length book.lanes.items)

abbrev pub owed_events_in : {E : Type 0} → Book E → ℕ
owed_events_in book = sum_of (λ lane. lane.owed_events) book

abbrev pub owed_records_in : {E : Type 0} → Book E → ℕ
owed_records_in book = sum_of (λ lane. lane.owed_records) book
