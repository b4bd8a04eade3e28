use Rattle.log_laws.proofs.Moving.{commits_keep}
use Rattle.log_laws.proofs.commits_keep.Goals as goal

pub returns : goal.returns
returns c = commits_keep
