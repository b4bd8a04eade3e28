use Rattle.log_clearing.proofs.RemovalStates as lemmas
use Rattle.log_clearing.proofs.laws.read_removals_may_be_made.Goals as goal

pub returns : goal.returns
returns c = lemmas.read_removals_may_be_made
