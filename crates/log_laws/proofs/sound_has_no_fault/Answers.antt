use Rattle.log_laws.proofs.Soundness.{sound_has_no_fault}
use Rattle.log_laws.proofs.sound_has_no_fault.Goals as goal

pub returns : goal.returns
returns c = sound_has_no_fault
