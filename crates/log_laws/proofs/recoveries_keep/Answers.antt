use Rattle.log_laws.proofs.Keeping.{runs_keep}
use Rattle.log_laws.proofs.recoveries_keep.Goals as goal

pub returns : goal.returns
returns c = runs_keep
