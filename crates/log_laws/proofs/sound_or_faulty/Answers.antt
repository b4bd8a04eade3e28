use Rattle.log_laws.proofs.Soundness.{sound_or_faulty}
use Rattle.log_laws.proofs.sound_or_faulty.Goals as goal

pub returns : goal.returns
returns c = sound_or_faulty
