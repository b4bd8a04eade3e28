use Rattle.redo_laws.proofs.Sweeping as lemmas
use Rattle.redo_laws.proofs.checkpoints.sweeps_pass.Goals as goal

pub returns : goal.returns
returns c = lemmas.sweeps_pass
