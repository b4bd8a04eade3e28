use Rattle.log_laws.proofs.Recovering.{recovering_fence}
use Rattle.log_laws.proofs.fences_go_on.Goals as goal

pub returns : goal.returns
returns c = recovering_fence
