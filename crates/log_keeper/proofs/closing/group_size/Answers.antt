use Rattle.std.proofs.Common.{sym}
use Rattle.log_clearing.proofs.PlanEvents.{length-group}
use Rattle.log_keeper.proofs.closing.group_size.Goals as goal

pub returns-else-count-eq0 : goal.returns-else-count-eq0
returns-else-count-eq0 c = sym (length-group c.args.gates.now c.if-count-eq0.false)
