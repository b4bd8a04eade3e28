use Rattle.std.proofs.Common.{◌+◌, arith}
use Rattle.std.specs.Prelude.{slice_index}
use Rattle.persist_tree.proofs.Owned.{owned_count-low}
use Rattle.persist_tree.proofs.soundness.count_own.Goals as goal

pub overflow_add-count : goal.overflow_add-count
overflow_add-count g c =
    let low = owned_count-low (slice_index (g.L.Look.words c.args.words.now)) c.args.area.heap (c.args.area.structure + 1) c.loop-k.k in
    let is = c.loop-k.invariant in
    let fits = c.ranges.blocks.fits in
    omega (arith, low, is, fits)
