use Rattle.std.proofs.Common.{ℕ, ◌+◌, ◌<◌, slice_index}
use Rattle.persist_model.specs.Shape.{IsKind}
use Rattle.region_layout.proofs.reading.wrong_kind.Given as goal

-- The words so far are kinds.
abbrev pub invariant-loop-s : goal.invariant-loop-s
invariant-loop-s g l = (j : ℕ) → j < l.s → IsKind (slice_index (g.W.Look.words l.words) (13 + j))
