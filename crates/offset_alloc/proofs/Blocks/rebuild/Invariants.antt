use Rattle.std.specs.Prelude.{slice_index}
use Rattle.region_layout.specs.Layout.{layout_shape}
use Rattle.offset_alloc.proofs.Growing.{AreFirst}
use Rattle.offset_alloc.proofs.Blocks.rebuild.Given as goal

abbrev pub invariant-loop-k : goal.invariant-loop-k
invariant-loop-k g l = AreFirst (layout_shape l.layout) (slice_index (g.W.Look.words l.words)) l.k l.standings.items
