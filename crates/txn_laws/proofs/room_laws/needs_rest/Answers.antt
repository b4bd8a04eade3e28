use Rattle.txn_laws.proofs.NeedsRest as lemmas
use Rattle.txn_laws.proofs.room_laws.needs_rest.Goals as goal

pub returns : goal.returns
returns c = lemmas.needs_rest
