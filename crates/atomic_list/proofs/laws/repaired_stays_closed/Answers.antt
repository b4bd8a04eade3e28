use Rattle.atomic_list.proofs.Closings.{repaired_stays_closed}
use Rattle.atomic_list.proofs.laws.repaired_stays_closed.Goals as goal

pub returns : goal.returns
returns c = repaired_stays_closed
