use Rattle.log_keeper.proofs.Sorting.{sorted_gates}
use Rattle.log_keeper.proofs.slots.sort_gates.Goals as goal

pub returns-clause-sorted : goal.returns-clause-sorted
returns-clause-sorted c = sorted_gates c.args.list.now.items c.sort_unstable.new.self.items c.sort_unstable.ensures.permutation c.sort_unstable.ensures.sorted
