use Rattle.persist_tree.proofs.Lawful.{by_blocks}
use Rattle.persist_tree.proofs.laws.depends_on_its_blocks.Goals as goal

pub returns : goal.returns
returns c = by_blocks
