use Rattle.std.specs.Prelude.{slice_index}
use Rattle.std.proofs.Common.{◌≡◌, ◌≤◌}
use Rattle.atomic_list.specs.Walk.{chain_of}
use Rattle.region_layout.specs.Layout.{layout_shape}
use Rattle.bucket_log.specs.Reads.{count_to}
use Rattle.bucket_log.proofs.Walking.{IsWalked}
use Rattle.bucket_log.proofs.chain.count_buckets_to.Given as goal

abbrev pub invariant-loop : goal.invariant-loop
invariant-loop g l = record {
  walked : IsWalked (λ front. l.count ≡ count_to l.bucket front) (chain_of (layout_shape l.fn.layout) (slice_index (g.W.Look.words l.words))) l.last l.counter;
  few : l.count ≤ l.counter;
}
