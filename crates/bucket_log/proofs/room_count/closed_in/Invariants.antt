use Rattle.std.specs.Prelude.{slice_index}
use Rattle.std.proofs.Common.{◌≡◌, ◌≤◌}
use Rattle.persist_model.specs.Sound.{closed_cells}
use Rattle.bucket_log.proofs.room_count.closed_in.Given as goal

abbrev pub invariant-loop-cell : goal.invariant-loop-cell
invariant-loop-cell g l = record {
  value : l.closed ≡ closed_cells (slice_index (g.W.Look.words l.words)) l.bucket l.cell;
  bound : l.closed ≤ l.cell;
}
