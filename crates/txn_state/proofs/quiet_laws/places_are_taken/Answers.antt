use Rattle.txn_state.proofs.SameTransaction as lemmas
use Rattle.txn_state.proofs.quiet_laws.places_are_taken.Goals as goal

pub returns : goal.returns
returns c facts = lemmas.places_are_taken
