use Rattle.std.proofs.Common.{sym, arith}
use Rattle.recovery_analysis.proofs.Summing.{needs_more, needs_fit, needs_whole}
use Rattle.recovery_analysis.proofs.working.total_need.Goals as goal

pub overflow_add-total : goal.overflow_add-total
overflow_add-total c = record {
  fits = needs_fit c.requires.0 c.args.undo.now c.loop-transaction.transaction-index c.transaction-item.result c.loop-transaction.total c.need-total.result c.requires.1 (omega arith)
      (sym c.transaction-item.is) (c.loop-transaction.invariant c.requires.0 c.requires.1) c.need-total.ensures.need;
}

pub loop-transaction-preserved : goal.loop-transaction-preserved
loop-transaction-preserved c = λ log h. needs_more log c.args.undo.now c.loop-transaction.transaction-index c.transaction-item.result c.loop-transaction.total c.need-total.result h (omega arith)
    (sym c.transaction-item.is) (c.loop-transaction.invariant log h) c.need-total.ensures.need

pub returns : goal.returns
returns c = λ log h. needs_whole log c.args.undo.now c.loop-transaction.transaction-index c.loop-transaction.total (omega arith) (c.loop-transaction.invariant log h)
