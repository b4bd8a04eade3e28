use Rattle.std.proofs.Common.{◌≡◌, ◌-◌, ◌^◌, min}
use Rattle.lane_book.specs.Reserved.{reserved_below}
use Rattle.lane_book.proofs.book.Book.shares.Given as goal

abbrev pub invariant-loop-l : goal.invariant-loop-l
invariant-loop-l g l = l.sum ≡ min (reserved_below l.self l.partitions l.p l.l) (2 ^ 64 - 1)
