use Rattle.std.specs.Prelude.{◌≡◌, ℕ, ◌<◌, false}
use Rattle.lane_book.specs.Locks.{is_held_by}
use Rattle.lane_book.proofs.book.Book.holder_of.Given as goal

abbrev pub invariant-loop-l : goal.invariant-loop-l
invariant-loop-l g l = (k : ℕ) → k < l.l → is_held_by l.self k l.s ≡ false
