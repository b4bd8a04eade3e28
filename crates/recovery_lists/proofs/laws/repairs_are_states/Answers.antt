use Rattle.recovery_lists.proofs.RepairStates.{repairs_are_states}
use Rattle.recovery_lists.proofs.laws.repairs_are_states.Goals as goal

pub returns : goal.returns
returns c = repairs_are_states
