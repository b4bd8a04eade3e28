use Rattle.rewind_script.specs.Generator.{transaction}
use Rattle.rewind_script.proofs.Draws.{first-text, next-text, next-state}
use Rattle.rewind_script.proofs.generator.append_transactions.Goals as goal

pub loop-number-init : goal.loop-number-init
loop-number-init c = first-text transaction 9 c.args.draws.now.state c.args.text.now

pub loop-number-preserved : goal.loop-number-preserved
loop-number-preserved c = (
  next-text transaction 9 c.loop-number.number c.args.draws.now.state c.loop-number.draws.state c.args.text.now c.loop-number.text c.append_transaction.new.text c.loop-number.invariant.0 c.loop-number.invariant.1 c.in_ok-append_transaction.ensures.text,
  next-state 9 c.loop-number.number c.args.draws.now.state c.loop-number.draws.state c.append_transaction.new.draws.state c.loop-number.invariant.1 (c.in_ok-append_transaction.ensures.state),
)
