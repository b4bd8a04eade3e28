use Rattle.std.proofs.Common.{take}
use Rattle.persist_model.specs.Shape.{part_of}
use Rattle.persist_model.specs.Order.{Follows}
use Rattle.log_laws.proofs.Tries.{AllGood}
use Rattle.region_layout.specs.Layout.{layout_shape}
use Rattle.log_tables.specs.Rows.{log_of_rows}
use Rattle.log_tables.specs.Passed.{IsPast}
use Rattle.sound_check.specs.Barring.{is_barring}
use Rattle.sound_check.proofs.order.try_order.Given as goal

abbrev pub invariant-loop-i : goal.invariant-loop-i
invariant-loop-i l = record {
  good : AllGood (Follows (part_of (layout_shape l.layout)) (log_of_rows l.rows)) (log_of_rows (take l.i l.rows));
  past : IsPast (part_of (layout_shape l.layout)) (is_barring (log_of_rows l.rows)) l.past (log_of_rows (take l.i l.rows));
}
