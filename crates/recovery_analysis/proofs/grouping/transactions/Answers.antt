use Rattle.recovery_analysis.proofs.Runs.{transactions_of}
use Rattle.recovery_analysis.proofs.grouping.transactions.Goals as goal

pub returns : goal.returns
returns c = transactions_of c.args.merged.now c.in_ok-found.found.items c.in_ok-sorted.sorted.items c.as_slice.result.now c.in_ok-all.all
    c.in_ok-found.ensures c.in_ok-sorted.ensures.same c.in_ok-sorted.ensures.kept c.as_slice.ensures.value c.in_ok-all.ensures
