use Rattle.log_clearing.proofs.ClearingStates as lemmas
use Rattle.log_clearing.proofs.laws.closings_end.Goals as goal

pub returns : goal.returns
returns c = lemmas.closings_end
