use Rattle.lane_book.specs.Books.{IsBook}
use Rattle.book_tests.proofs.lock_tests.a_begin_has_all_its_structures_or_waits.Given as goal

abbrev pub invariant-loop-lane : goal.invariant-loop-lane
invariant-loop-lane g l = IsBook l.book
