use Rattle.std.proofs.Common.{refl}
use Rattle.std.specs.Prelude.{slice_index}
use Rattle.persist_model.specs.Shape.{heap}
use Rattle.region_layout.specs.Layout.{layout_shape}
use Rattle.persist_tree.proofs.Sounding.{holds_tree_at}
use Rattle.persist_tree.proofs.soundness.sound.Goals as goal

pub returns-then-is_tree-clause-ok : goal.returns-then-is_tree-clause-ok
returns-then-is_tree-clause-ok g c = holds_tree_at (heap (layout_shape c.args.layout)) c.heap.result c.args.structure (slice_index (g.L.Look.words c.args.words.now)) c.block-root.result c.heap.ensures c.block-root.ensures (c.if-is_tree.ensures.0 refl)
