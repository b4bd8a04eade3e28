use Rattle.std.proofs.Common.{◌≡◌, ◌+◌}
use Rattle.std.specs.Prelude.{slice_index}
use Rattle.persist_tree.specs.Sound.{owned_count}
use Rattle.persist_tree.proofs.soundness.count_own.Given as goal

abbrev pub invariant-loop-k : goal.invariant-loop-k
invariant-loop-k g l = l.count ≡ owned_count (slice_index (g.L.Look.words l.words)) l.area.heap (l.area.structure + 1) l.k
