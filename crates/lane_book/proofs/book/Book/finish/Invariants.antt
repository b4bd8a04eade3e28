use Rattle.std.specs.Vec.Iter.{into_iter_items, into_iter_len}
use Rattle.lane_book.proofs.Flying.{AreGathered}
use Rattle.lane_book.proofs.book.Book.finish.Given as goal

abbrev pub invariant-loop-lane : goal.invariant-loop-lane
invariant-loop-lane g l = AreGathered l.fn.self.lanes.items l.yielded (into_iter_items l.lane-iterator) (into_iter_len l.lane-iterator) l.flight
