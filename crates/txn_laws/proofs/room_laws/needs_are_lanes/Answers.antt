use Rattle.txn_laws.proofs.Needs as lemmas
use Rattle.txn_laws.proofs.room_laws.needs_are_lanes.Goals as goal

pub returns : goal.returns
returns c = lemmas.needs_are_lanes
