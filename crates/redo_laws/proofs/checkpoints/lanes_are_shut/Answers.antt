use Rattle.redo_laws.proofs.FencingGroupsTxns as lemmas
use Rattle.redo_laws.proofs.checkpoints.lanes_are_shut.Goals as goal

pub returns : goal.returns
returns c = lemmas.lanes_are_shut
