use Rattle.lane_book.specs.Books.{IsBook}
use Rattle.book_tests.proofs.refusal_tests.check_asks.Given as goal

abbrev pub invariant-loop-ask : goal.invariant-loop-ask
invariant-loop-ask g l = IsBook l.book
