use Rattle.std.proofs.Common.{◌≡◌, ℕ, ◌+◌, ◌<◌}
use Rattle.pooled_region.specs.Pool.{next_of}
use Rattle.pooled_region.proofs.room.free_all.Given as goal

abbrev pub invariant-loop-place : goal.invariant-loop-place
invariant-loop-place l = (p : ℕ) → p < l.place → next_of l.places p ≡ p + 1
