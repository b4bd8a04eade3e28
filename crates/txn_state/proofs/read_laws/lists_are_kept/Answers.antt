use Rattle.txn_state.proofs.ListRooms as lemmas
use Rattle.txn_state.proofs.read_laws.lists_are_kept.Goals as goal

pub returns : goal.returns
returns c facts = lemmas.lists_are_kept
