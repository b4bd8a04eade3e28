use Rattle.std.specs.Prelude.{slice_index, ◌+◌}
use Rattle.std.proofs.Common.{subst, sym}
use Rattle.region_layout.specs.Layout.{layout_shape}
use Rattle.offset_alloc.proofs.Growing.{AreFirst, first_more}
use Rattle.offset_alloc.proofs.Blocks.rebuild.Goals as goal

pub loop-k-preserved : goal.loop-k-preserved
loop-k-preserved g c =
    let w = slice_index (g.W.Look.words c.args.words.now) in
    subst (λ xs. AreFirst (layout_shape c.args.layout) w (c.loop-k.k + 1) xs) (sym c.in_ok-put.ensures)
    (first_more (layout_shape c.args.layout) w c.loop-k.k c.loop-k.standings.items c.standing_at.result c.loop-k.invariant c.standing_at.ensures)
