use Rattle.log_laws.proofs.Keeping.{recovery_keeps}
use Rattle.log_laws.proofs.recovery_keeps.Goals as goal

pub returns : goal.returns
returns c = recovery_keeps
