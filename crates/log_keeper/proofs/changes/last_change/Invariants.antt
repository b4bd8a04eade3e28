use Rattle.log_keeper.proofs.LastChanges.{IsLeft}
use Rattle.log_keeper.proofs.changes.last_change.Given as goal

abbrev pub invariant-loop-entry : goal.invariant-loop-entry
invariant-loop-entry l = IsLeft l.transaction l.word l.entries l.entry-index l.left
