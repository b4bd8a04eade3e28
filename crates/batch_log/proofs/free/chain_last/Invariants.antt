use Rattle.std.specs.Prelude.{slice_index}
use Rattle.atomic_list.specs.Walk.{chain_of}
use Rattle.region_layout.specs.Layout.{layout_shape}
use Rattle.bucket_log.proofs.Walking.{IsWalked}
use Rattle.batch_log.proofs.free.chain_last.Given as goal

abbrev pub invariant-loop : goal.invariant-loop
invariant-loop g l = record {
  walked : IsWalked (λ front. Unit {0}) (chain_of (layout_shape l.fn.layout) (slice_index (g.W.Look.words l.words))) l.last l.counter;
}
