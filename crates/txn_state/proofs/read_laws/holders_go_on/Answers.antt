use Rattle.txn_state.proofs.FitsRegion as lemmas
use Rattle.txn_state.proofs.read_laws.holders_go_on.Goals as goal

pub returns : goal.returns
returns c facts = lemmas.holders_go_on
