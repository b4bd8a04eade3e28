use Rattle.std.proofs.Common.{◌≡◌, ◌-◌, ◌^◌, min}
use Rattle.lane_book.specs.declared.lane.Lane.{Lane}
use Rattle.lane_book.specs.Owed.{sum_below}
use Rattle.lane_book.proofs.book.Book.owed_records.Given as goal

abbrev pub invariant-loop-l : goal.invariant-loop-l
invariant-loop-l g l = l.sum ≡ min (sum_below (λ (lane : Lane _). lane.owed_records) l.self l.l) (2 ^ 64 - 1)
