use Rattle.log_laws.proofs.Moving.{moves_keep}
use Rattle.log_laws.proofs.moves_keep.Goals as goal

pub returns : goal.returns
returns c = moves_keep
