use Rattle.lane_book.specs.Books.{IsBook}
use Rattle.book_tests.proofs.face_tests.each_call_changes_the_face_by_its_row.Given as goal

abbrev pub invariant-loop-turn : goal.invariant-loop-turn
invariant-loop-turn g l = IsBook l.book
