use Rattle.txn_state.proofs.SmallNumbers as lemmas
use Rattle.txn_state.proofs.read_laws.numbers_are_small.Goals as goal

pub returns : goal.returns
returns c facts = lemmas.numbers_are_small
