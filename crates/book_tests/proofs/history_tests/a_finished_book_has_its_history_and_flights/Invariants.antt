use Rattle.lane_book.specs.Books.{IsBook}
use Rattle.book_tests.proofs.history_tests.a_finished_book_has_its_history_and_flights.Given as goal

abbrev pub invariant-loop-lane : goal.invariant-loop-lane
invariant-loop-lane g l = IsBook l.book
