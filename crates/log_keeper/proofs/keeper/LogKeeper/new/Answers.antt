use Rattle.std.proofs.Common.{sym, subst}
use Rattle.log_keeper.specs.Logged.{Keeping}
use Rattle.log_keeper.specs.Ordered.{IsOrdered}
use Rattle.log_keeper.proofs.Starts.{starts_so, starts_ordered}
use Rattle.log_keeper.proofs.keeper.LogKeeper.new.Goals as goal

pub returns-clause-kept : goal.returns-clause-kept
returns-clause-kept c = starts_so c.in_ok-ledger.ledger.items c.in_ok-slots.slots.items c.args.records.now c.in_ok-ledger.ensures c.in_ok-slots.ensures.free

pub returns-clause-ordered : goal.returns-clause-ordered
returns-clause-ordered c = λ order. subst (λ (k : Keeping). IsOrdered k c.args.next_lsn) (sym (returns-clause-kept c)) (starts_ordered c.args.next_lsn c.args.records.now order)
