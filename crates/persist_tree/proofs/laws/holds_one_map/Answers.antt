use Rattle.persist_tree.proofs.Lawful.{one_map}
use Rattle.persist_tree.proofs.laws.holds_one_map.Goals as goal

pub returns : goal.returns
returns c = one_map
