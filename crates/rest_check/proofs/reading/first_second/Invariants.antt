use Rattle.std.proofs.Common.{ℕ, ◌<◌}
use Rattle.std.specs.Prelude.{slice_index}
use Rattle.region_layout.specs.Layout.{layout_shape}
use Rattle.recovery_run.specs.Reached.{HasFewBuckets}
use Rattle.rest_check.proofs.reading.first_second.Given as goal

abbrev pub invariant-loop-p : goal.invariant-loop-p
invariant-loop-p g l = (p : ℕ) → p < l.p → HasFewBuckets (layout_shape l.layout) p (slice_index (g.W.Look.words l.words))
