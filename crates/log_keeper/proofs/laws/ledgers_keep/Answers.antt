use Rattle.log_keeper.proofs.Ledgers as lemmas
use Rattle.log_keeper.proofs.laws.ledgers_keep.Goals as goal

pub returns : goal.returns
returns c = lemmas.ledgers_keep
