use Rattle.log_laws.proofs.Naming.{need_is_unnamed}
use Rattle.log_laws.proofs.need_is_unnamed.Goals as goal

pub returns : goal.returns
returns c = need_is_unnamed
