use Rattle.lane_book.specs.Books.{IsBook}
use Rattle.book_tests.proofs.refused.fill.Given as goal

abbrev pub invariant-loop-block : goal.invariant-loop-block
invariant-loop-block g l = IsBook l.book
