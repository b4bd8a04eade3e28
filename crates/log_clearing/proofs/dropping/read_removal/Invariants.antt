use Rattle.std.specs.Prelude.{slice_index}
use Rattle.atomic_list.specs.Walk.{chain_of}
use Rattle.region_layout.specs.Layout.{layout_shape}
use Rattle.bucket_log.proofs.Walking.{IsWalked}
use Rattle.log_clearing.proofs.ClosedBuckets.{AreOpen}
use Rattle.log_clearing.proofs.dropping.read_removal.Given as goal

abbrev pub invariant-loop : goal.invariant-loop
invariant-loop g l = IsWalked (AreOpen (layout_shape l.layout) (slice_index (g.W.Look.words l.words)))
    (chain_of (layout_shape l.layout) (slice_index (g.W.Look.words l.words))) l.prev l.counter
