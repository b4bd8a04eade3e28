use Rattle.map_deeds.proofs.Beginning.{fresh_heaps_are_empty}
use Rattle.map_deeds.proofs.laws.fresh_heaps_are_empty.Goals as goal

pub returns : goal.returns
returns c = fresh_heaps_are_empty
