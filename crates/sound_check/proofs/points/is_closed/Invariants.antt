use Rattle.std.specs.Prelude.{slice_index}
use Rattle.std.proofs.Common.{◌≡◌, ℕ, ◌<◌}
use Rattle.persist_model.specs.ImageRecords.{cell_address}
use Rattle.sound_check.proofs.points.is_closed.Given as goal

abbrev pub invariant-loop-cell : goal.invariant-loop-cell
invariant-loop-cell g l = (d : ℕ) → d < l.cell → slice_index (g.W.Look.words l.words) (cell_address l.b d) ≡ 0
