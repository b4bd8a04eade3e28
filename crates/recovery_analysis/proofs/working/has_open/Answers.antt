use Rattle.std.proofs.Common.{sym, arith, rules}
use Rattle.recovery_analysis.proofs.Picked.{at_one}
use Rattle.recovery_analysis.proofs.Gathering.{open_found, open_none, skipped_more}
use Rattle.recovery_analysis.proofs.working.has_open.Goals as goal

pub returns-then-not-is_skipped : goal.returns-then-not-is_skipped
returns-then-not-is_skipped c = λ log h newest.
    let one = at_one log c.args.all.now c.loop-transaction.transaction-index c.transaction-item.result h (omega arith) (sym c.transaction-item.is) in
    open_found log c.transaction-item.result c.is_skipped.result one (search rules) (c.is_skipped.ensures log one newest)

pub loop-transaction-preserved : goal.loop-transaction-preserved
loop-transaction-preserved c = λ log h newest.
    let one = at_one log c.args.all.now c.loop-transaction.transaction-index c.transaction-item.result h (omega arith) (sym c.transaction-item.is) in
    skipped_more log c.args.all.now c.loop-transaction.transaction-index c.transaction-item.result c.is_skipped.result (omega arith) (sym c.transaction-item.is) (search rules)
    (c.is_skipped.ensures log one newest) (c.loop-transaction.invariant log h newest)

pub returns : goal.returns
returns c = λ log h newest. open_none log c.args.all.now c.loop-transaction.transaction-index h (omega arith) (c.loop-transaction.invariant log h newest)
