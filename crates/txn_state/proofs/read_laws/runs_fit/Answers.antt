use Rattle.txn_state.proofs.FitsRegion as lemmas
use Rattle.txn_state.proofs.read_laws.runs_fit.Goals as goal

pub returns : goal.returns
returns c facts = lemmas.runs_fit
