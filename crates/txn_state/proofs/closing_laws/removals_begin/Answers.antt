use Rattle.txn_state.proofs.NextParts as lemmas
use Rattle.txn_state.proofs.closing_laws.removals_begin.Goals as goal

pub returns : goal.returns
returns c facts = lemmas.removals_begin
