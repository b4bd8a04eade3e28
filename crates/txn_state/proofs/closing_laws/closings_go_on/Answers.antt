use Rattle.txn_state.proofs.EndGroups as lemmas
use Rattle.txn_state.proofs.closing_laws.closings_go_on.Goals as goal

pub returns : goal.returns
returns c facts = lemmas.closings_go_on
