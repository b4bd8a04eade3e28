use Rattle.std.specs.Prelude.{slice_index}
use Rattle.std.proofs.Common.{ℕ, ◌<◌}
use Rattle.persist_model.specs.Chain.{view}
use Rattle.region_layout.specs.Layout.{layout_shape}
use Rattle.sound_check.specs.Rules.{HasGoodList}
use Rattle.sound_check.proofs.list_rules.try_all_lists.Given as goal

abbrev pub invariant-loop-p : goal.invariant-loop-p
invariant-loop-p g l = (q : ℕ) → q < l.p → HasGoodList (layout_shape l.layout) q (view q (slice_index (g.W.Look.words l.words)))
