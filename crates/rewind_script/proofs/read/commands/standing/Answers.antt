use Rattle.std.proofs.Common.{◌∙◌, sym, arith}
use Rattle.rewind_script.specs.Commands.{live_after}
use Rattle.rewind_script.proofs.Lists.{live-on, live-done}
use Rattle.rewind_script.proofs.read.commands.standing.Goals as goal

pub loop-command-preserved : goal.loop-command-preserved
loop-command-preserved c = (
  live-on c.loop-command.live c.standing_after-live.result c.loop-command.command-index c.args.commands.now _ (live_after 0 c.args.commands.now) (omega arith) c.standing_after-live.ensures.step c.loop-command.invariant.0,
  omega (arith, c.standing_after-live.ensures.bound, c.loop-command.invariant.1),
)

pub returns-clause-count : goal.returns-clause-count
returns-clause-count c = sym (live-done c.loop-command.live c.loop-command.command-index c.args.commands.now (omega arith)) ∙ c.loop-command.invariant.0
