use Rattle.std.specs.Prelude.{◌≡◌, ℕ, ◌<◌, true}
use Rattle.lane_types.specs.Heaps.{has_bit}
use Rattle.lane_book.specs.Locks.{IsLoose}
use Rattle.lane_book.proofs.book.Book.holder.Given as goal

abbrev pub invariant-loop-s : goal.invariant-loop-s
invariant-loop-s g l = (t : ℕ) → t < l.s → has_bit l.set t ≡ true → IsLoose l.self t
