use Rattle.persist_hash.proofs.OneMap.{depends}
use Rattle.persist_hash.proofs.laws.depends_on_its_blocks.Goals as goal

pub returns : goal.returns
returns c = depends
