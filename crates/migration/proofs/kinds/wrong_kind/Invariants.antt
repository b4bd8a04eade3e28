use Rattle.std.proofs.Common.{ℕ, ◌<◌, slice_index}
use Rattle.migration.specs.Fits.{IsOfKind}
use Rattle.migration.proofs.kinds.wrong_kind.Given as goal

abbrev pub invariant-loop-s : goal.invariant-loop-s
invariant-loop-s g l = (t : ℕ) → t < l.s → IsOfKind (slice_index (g.W.Look.words l.words)) l.kinds t
