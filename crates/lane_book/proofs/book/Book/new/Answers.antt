use Rattle.lane_book.proofs.Starting.{all_idle}
use Rattle.lane_book.proofs.book.Book.new.Goals as goal

pub returns-clause-book : goal.returns-clause-book
returns-clause-book g c = all_idle _ c.in_ok-lanes.lanes.items c.in_ok-lanes.ensures.idle
