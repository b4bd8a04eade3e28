use Rattle.std.proofs.Common.{take}
use Rattle.persist_model.specs.Shape.{part_of}
use Rattle.region_layout.specs.Layout.{layout_shape}
use Rattle.log_tables.specs.Rows.{log_of_rows}
use Rattle.log_tables.specs.Homes.{AreTransactions}
use Rattle.log_tables.proofs.transactions.read_transactions.Given as goal

abbrev pub invariant-loop-s : goal.invariant-loop-s
invariant-loop-s l = AreTransactions (part_of (layout_shape l.layout)) l.all (log_of_rows (take l.s-index l.rows))
