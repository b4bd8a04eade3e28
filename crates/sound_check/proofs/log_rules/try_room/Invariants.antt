use Rattle.std.specs.Prelude.{slice_index}
use Rattle.std.proofs.Common.{ℕ, ◌<◌}
use Rattle.persist_model.specs.State.{State, HasRoom}
use Rattle.persist_model.specs.Sound.{HasState}
use Rattle.region_layout.specs.Layout.{layout_shape}
use Rattle.log_tables.specs.Rows.{log_of_rows}
use Rattle.sound_check.proofs.log_rules.try_room.Given as goal

abbrev pub invariant-loop-p : goal.invariant-loop-p
invariant-loop-p g l = (s : State) → HasState (layout_shape l.layout) (slice_index (g.W.Look.words l.words)) s → (q : ℕ) → q < l.p → HasRoom (layout_shape l.layout) (log_of_rows l.rows) q (s.room q)
