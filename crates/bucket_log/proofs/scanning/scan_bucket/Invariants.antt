use Rattle.std.specs.Prelude.{slice_index}
use Rattle.std.proofs.Common.{◌≡◌, ◌++◌}
use Rattle.bucket_log.specs.Scans.{open_cells}
use Rattle.bucket_log.proofs.scanning.scan_bucket.Given as goal

abbrev pub invariant-loop-cell : goal.invariant-loop-cell
invariant-loop-cell g l = l.found.items ≡ l.initial.found.items ++ open_cells (slice_index (g.W.Look.words l.words)) l.bucket l.cell
