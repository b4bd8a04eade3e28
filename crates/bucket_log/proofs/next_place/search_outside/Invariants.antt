use Rattle.std.specs.Prelude.{slice_index}
use Rattle.std.proofs.Common.{ℕ, ◌+◌, ◌-◌, ◌≤◌, ◌<◌}
use Rattle.persist_model.specs.Records.{IsAmong}
use Rattle.persist_model.specs.Shape.{bucket}
use Rattle.atomic_list.specs.Walk.{chain_of}
use Rattle.region_layout.specs.Layout.{layout_shape}
use Rattle.bucket_log.specs.Reads.{HasAllTo}
use Rattle.bucket_log.proofs.next_place.search_outside.Given as goal

abbrev pub invariant-loop-low : goal.invariant-loop-low
invariant-loop-low g l = record {
  from : l.fn.part.first ≤ l.low;
  order : l.low ≤ l.high;
  to : l.high ≤ l.fn.part.first + l.fn.part.count;
  all_below : (i : ℕ) → l.fn.part.first ≤ i → i < l.low → IsAmong (chain_of (layout_shape l.fn.layout) (slice_index (g.W.Look.words l.words))) (bucket (layout_shape l.fn.layout) i);
  not_all : l.high < l.fn.part.first + l.fn.part.count → HasAllTo (layout_shape l.fn.layout) l.fn.part (chain_of (layout_shape l.fn.layout) (slice_index (g.W.Look.words l.words))) l.high → ⊥;
}

abbrev pub decreases-loop-low : goal.decreases-loop-low
decreases-loop-low g l = l.high - l.low
