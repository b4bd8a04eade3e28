use Rattle.persist_hash.proofs.OneMap.{one_map}
use Rattle.persist_hash.proofs.laws.holds_one_map.Goals as goal

pub returns : goal.returns
returns c = one_map
