use Rattle.lane_book.specs.Books.{IsBook}
use Rattle.book_tests.proofs.turns.undo.Given as goal

abbrev pub invariant-loop : goal.invariant-loop
invariant-loop g l = IsBook l.book
