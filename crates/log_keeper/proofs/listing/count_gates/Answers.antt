use Rattle.std.proofs.Common.{◌∙◌}
use Rattle.log_keeper.proofs.GateLists.{gates_counted}
use Rattle.log_keeper.proofs.listing.count_gates.Goals as goal

pub returns : goal.returns
returns c = c.chosen.ensures ∙ gates_counted c.args.transaction c.args.ends c.args.entries.now
