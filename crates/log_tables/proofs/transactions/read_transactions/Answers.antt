use Rattle.std.proofs.Common.{take, subst, sym, arith}
use Rattle.std.proofs.lemmas.List.{take_all}
use Rattle.persist_model.specs.Shape.{part_of}
use Rattle.region_layout.specs.Layout.{layout_shape}
use Rattle.log_tables.specs.Rows.{log_of_rows}
use Rattle.log_tables.specs.Homes.{AreTransactions}
use Rattle.log_tables.proofs.Rows.{log_next, log_short}
use Rattle.log_tables.proofs.transactions.read_transactions.Goals as goal

pub loop-s-init : goal.loop-s-init
loop-s-init c = c.new-all.ensures (part_of (layout_shape c.args.layout))

pub add-requires : goal.add-requires
add-requires c = (log_of_rows (take c.loop-s.s-index c.args.rows.now), c.loop-s.invariant, (let short = log_short c.loop-s.s-index c.args.rows.now in omega (arith, short)))

pub loop-s-preserved : goal.loop-s-preserved
loop-s-preserved c = subst (AreTransactions (part_of (layout_shape c.args.layout)) c.add.new.self) (sym (log_next c.args.rows.now c.loop-s.s-index _ (omega arith))) (c.in_ok-add.ensures _ c.loop-s.invariant)

pub returns : goal.returns
returns c = subst (λ rows. AreTransactions (part_of (layout_shape c.args.layout)) c.loop-s.all (log_of_rows rows)) (take_all c.loop-s.s-index c.args.rows.now (omega arith)) c.loop-s.invariant
