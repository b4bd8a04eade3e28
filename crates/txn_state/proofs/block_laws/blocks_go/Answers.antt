use Rattle.txn_state.proofs.BlocksGo as lemmas
use Rattle.txn_state.proofs.block_laws.blocks_go.Goals as goal

pub returns : goal.returns
returns c facts = lemmas.blocks_go
