use Rattle.log_laws.proofs.Finishing.{recovery_ends}
use Rattle.log_laws.proofs.recovery_ends.Goals as goal

pub returns : goal.returns
returns c = recovery_ends
