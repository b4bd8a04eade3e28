use Rattle.log_laws.proofs.Naming.{stack_is_unnamed}
use Rattle.log_laws.proofs.stack_is_unnamed.Goals as goal

pub returns : goal.returns
returns c = stack_is_unnamed
