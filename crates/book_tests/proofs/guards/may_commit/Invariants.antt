use Rattle.std.proofs.Common.{ℕ, ◌<◌, get_or}
use Rattle.book_tests.proofs.guards.may_commit.Given as goal

abbrev pub invariant-loop-k : goal.invariant-loop-k
invariant-loop-k l = (j : ℕ) → j < l.k → get_or l.gives j 0 < 16
