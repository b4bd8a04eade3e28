use Rattle.std.specs.Prelude.{slice_index}
use Rattle.std.proofs.Common.{◌≡◌, ◌+◌, ◌-◌}
use Rattle.std.specs.Vec.{vec_capacity}
use Rattle.atomic_list.specs.Walk.{chain_of}
use Rattle.region_layout.specs.Layout.{layout_shape}
use Rattle.batch_log.specs.FreeBuckets.{free_buckets}
use Rattle.batch_log.proofs.FreeWalks.{HasFound}
use Rattle.batch_log.proofs.free.find_free.Given as goal

abbrev pub invariant-loop-j : goal.invariant-loop-j
invariant-loop-j g l = record {
  found : HasFound l.wanted (free_buckets (layout_shape l.layout) l.fn.part (chain_of (layout_shape l.layout) (slice_index (g.W.Look.words l.words)))) l.found.items
      (layout_shape l.layout) (chain_of (layout_shape l.layout) (slice_index (g.W.Look.words l.words))) l.j (l.fn.part.first + l.fn.part.count - l.j);
  capacity : vec_capacity l.found ≡ vec_capacity l.initial.found;
}
