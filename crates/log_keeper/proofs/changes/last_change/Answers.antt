use Rattle.log_keeper.proofs.LastChanges.{left_goes_on}
use Rattle.log_keeper.proofs.changes.last_change.Goals as goal

pub loop-entry-preserved : goal.loop-entry-preserved
loop-entry-preserved c = left_goes_on c.args.transaction c.args.word c.args.entries.now c.loop-entry.entry-index _ c.loop-entry.left c.left_by-left.result c.loop-entry-test.true c.loop-entry.invariant
    c.left_by-left.ensures
