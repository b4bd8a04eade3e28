use Rattle.std.proofs.Common.{sym, arith}
use Rattle.recovery_analysis.specs.Analyses.{IsUnskipped}
use Rattle.recovery_analysis.proofs.Picked.{picked_begins, picked_more, at_one, unskipped_end}
use Rattle.recovery_analysis.proofs.picking.unskipped_of.Goals as goal

pub loop-transaction-init : goal.loop-transaction-init
loop-transaction-init c = λ log h newest. picked_begins (IsUnskipped log) c.args.all.now c.new-found.result c.new-found.ensures

pub loop-transaction-preserved : goal.loop-transaction-preserved
loop-transaction-preserved c = λ log h newest. picked_more (IsUnskipped log) c.args.all.now c.loop-transaction.transaction-index c.transaction-item.result c.loop-transaction.found c.keep.new.numbers
    c.is_unskipped.result h.ascending (omega arith) (sym c.transaction-item.is)
    (c.is_unskipped.ensures log (at_one log c.args.all.now c.loop-transaction.transaction-index c.transaction-item.result h (omega arith) (sym c.transaction-item.is)) newest)
    c.in_ok-keep.ensures (c.loop-transaction.invariant log h newest)

pub returns : goal.returns
returns c = λ log h newest. unskipped_end log c.args.all.now c.loop-transaction.transaction-index c.loop-transaction.found h (omega arith) (c.loop-transaction.invariant log h newest)
