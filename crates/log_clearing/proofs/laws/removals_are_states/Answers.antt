use Rattle.log_clearing.proofs.RemovalStates as lemmas
use Rattle.log_clearing.proofs.laws.removals_are_states.Goals as goal

pub returns : goal.returns
returns c = lemmas.removals_are_states
