use Rattle.std.proofs.Common.{◌<◌, length, arith, rules}
use Rattle.recovery_analysis.proofs.Lists.{among_at}
use Rattle.recovery_analysis.proofs.Gathering.{next_is}
use Rattle.recovery_analysis.proofs.working.next_number.Goals as goal

pub overflow_add-result : goal.overflow_add-result
overflow_add-result c =
    let long : 0 < length c.args.merged.now = search rules in
    record { fits = c.requires _ (among_at c.args.merged.now _ _ (omega arith)) }

pub returns : goal.returns
returns c = next_is c.args.merged.now _ (search rules)
