use Rattle.std.specs.Prelude.{slice_index}
use Rattle.region_layout.specs.Layout.{layout_shape}
use Rattle.log_partition.specs.Used.{chains_in}
use Rattle.log_partition.proofs.Known.{IsReadTo}
use Rattle.log_partition.proofs.used.UsedBuckets.read.Given as goal

abbrev pub invariant-loop-p : goal.invariant-loop-p
invariant-loop-p g l = IsReadTo (layout_shape l.layout) (chains_in (layout_shape l.layout) (slice_index (g.W.Look.words l.words))) l.p l.self.used.items l.self.from.items
