use Rattle.lane_book.specs.Books.{IsBook}
use Rattle.book_tests.proofs.cell_tests.each_call_reserves_in_its_partition.Given as goal

abbrev pub invariant-loop-lane : goal.invariant-loop-lane
invariant-loop-lane g l = IsBook l.book
