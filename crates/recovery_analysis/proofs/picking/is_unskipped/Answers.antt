use Rattle.recovery_analysis.proofs.Picked.{running_is_none, unskipped_is}
use Rattle.recovery_analysis.proofs.picking.is_unskipped.Goals as goal

pub returns-then-is_running : goal.returns-then-is_running
returns-then-is_running c = λ log h newest. running_is_none log c.args.transaction.now.number c.is_running.result c.if-is_running.true (c.is_running.ensures log h)

pub returns : goal.returns
returns c = λ log h newest. unskipped_is log c.args.transaction.now.number c.is_running.result c.is_skipped.result c.if-is_running.false (c.is_running.ensures log h)
    (c.is_skipped.ensures log h newest)
