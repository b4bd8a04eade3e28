use Rattle.log_laws.proofs.Recovering.{recovering_store}
use Rattle.log_laws.proofs.stores_go_on.Goals as goal

pub returns : goal.returns
returns c = recovering_store
