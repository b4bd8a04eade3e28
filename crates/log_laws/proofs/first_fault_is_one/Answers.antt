use Rattle.log_laws.proofs.Soundness.{first_fault_is_one}
use Rattle.log_laws.proofs.first_fault_is_one.Goals as goal

pub returns : goal.returns
returns c = first_fault_is_one
