use Rattle.std.specs.Prelude.{slice_index}
use Rattle.atomic_list.specs.Walk.{chain_of}
use Rattle.region_layout.specs.Layout.{layout_shape}
use Rattle.bucket_log.proofs.Walking.{IsWalked}
use Rattle.log_partition.specs.Marks.{AddsMarks}
use Rattle.log_partition.proofs.used.mark_chain.Given as goal

abbrev pub invariant-loop : goal.invariant-loop
invariant-loop g l = IsWalked (λ front. AddsMarks (layout_shape l.layout) front l.initial.marks.items l.marks.items) (chain_of (layout_shape l.layout) (slice_index (g.W.Look.words l.words))) l.last l.counter
