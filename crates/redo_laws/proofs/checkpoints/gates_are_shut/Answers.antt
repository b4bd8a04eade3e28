use Rattle.redo_laws.proofs.ShuttingGates as lemmas
use Rattle.redo_laws.proofs.checkpoints.gates_are_shut.Goals as goal

pub returns : goal.returns
returns c = lemmas.gates_are_shut
