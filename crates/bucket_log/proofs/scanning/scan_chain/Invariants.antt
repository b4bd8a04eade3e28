use Rattle.std.specs.Prelude.{slice_index}
use Rattle.std.proofs.Common.{◌≡◌}
use Rattle.atomic_list.specs.Walk.{chain_of}
use Rattle.region_layout.specs.Layout.{layout_shape}
use Rattle.bucket_log.specs.Scans.{chain_cells}
use Rattle.bucket_log.proofs.Walking.{IsWalked}
use Rattle.bucket_log.proofs.scanning.scan_chain.Given as goal

abbrev pub invariant-loop : goal.invariant-loop
invariant-loop g l = IsWalked (λ front. l.found.items ≡ chain_cells (slice_index (g.W.Look.words l.words)) l.layout.cells front)
    (chain_of (layout_shape l.layout) (slice_index (g.W.Look.words l.words))) l.last l.counter
