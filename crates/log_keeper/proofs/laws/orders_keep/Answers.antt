use Rattle.log_keeper.proofs.Orders as lemmas
use Rattle.log_keeper.proofs.laws.orders_keep.Goals as goal

pub returns : goal.returns
returns c = lemmas.orders_keep
