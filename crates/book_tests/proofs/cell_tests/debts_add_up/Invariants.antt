use Rattle.lane_book.specs.Books.{IsBook}
use Rattle.book_tests.proofs.cell_tests.debts_add_up.Given as goal

abbrev pub invariant-loop-lane : goal.invariant-loop-lane
invariant-loop-lane g l = IsBook l.book
