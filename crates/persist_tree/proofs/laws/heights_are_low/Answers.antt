use Rattle.persist_tree.proofs.Lawful.{low_heights}
use Rattle.persist_tree.proofs.laws.heights_are_low.Goals as goal

pub returns : goal.returns
returns c = low_heights
