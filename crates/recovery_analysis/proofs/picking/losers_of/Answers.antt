use Rattle.std.proofs.Common.{sym, arith}
use Rattle.persist_model.specs.Records.{IsRunning}
use Rattle.recovery_analysis.proofs.Picked.{picked_begins, picked_more, at_one, losers_end}
use Rattle.recovery_analysis.proofs.picking.losers_of.Goals as goal

pub loop-transaction-init : goal.loop-transaction-init
loop-transaction-init c = λ log h. picked_begins (IsRunning log) c.args.all.now c.new-found.result c.new-found.ensures

pub loop-transaction-preserved : goal.loop-transaction-preserved
loop-transaction-preserved c = λ log h. picked_more (IsRunning log) c.args.all.now c.loop-transaction.transaction-index c.transaction-item.result c.loop-transaction.found c.keep.new.numbers
    c.is_running.result h.ascending (omega arith) (sym c.transaction-item.is)
    (c.is_running.ensures log (at_one log c.args.all.now c.loop-transaction.transaction-index c.transaction-item.result h (omega arith) (sym c.transaction-item.is)))
    c.in_ok-keep.ensures (c.loop-transaction.invariant log h)

pub returns : goal.returns
returns c = λ log h. losers_end log c.args.all.now c.loop-transaction.transaction-index c.loop-transaction.found h (omega arith) (c.loop-transaction.invariant log h)
