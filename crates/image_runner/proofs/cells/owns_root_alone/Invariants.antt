use Rattle.std.proofs.Common.{slice_index}
use Rattle.persist_model.specs.Shape.{heap}
use Rattle.region_layout.specs.Layout.{layout_shape}
use Rattle.image_runner.specs.Cells.{OwnsRootAlone}
use Rattle.image_runner.proofs.cells.owns_root_alone.Given as goal

abbrev pub invariant-loop-k : goal.invariant-loop-k
invariant-loop-k g l = OwnsRootAlone (heap (layout_shape l.layout)) (slice_index (g.L.Look.words l.words)) l.structure l.k
