use Rattle.txn_state.proofs.Staying as lemmas
use Rattle.txn_state.proofs.beside.lanes_stay.Goals as goal

pub returns : goal.returns
returns c facts = lemmas.lanes_stay
