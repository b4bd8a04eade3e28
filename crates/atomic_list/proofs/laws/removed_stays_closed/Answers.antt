use Rattle.atomic_list.proofs.Closings.{removed_stays_closed}
use Rattle.atomic_list.proofs.laws.removed_stays_closed.Goals as goal

pub returns : goal.returns
returns c = removed_stays_closed
