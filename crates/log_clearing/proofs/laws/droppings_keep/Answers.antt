use Rattle.log_clearing.proofs.ClearingStates as lemmas
use Rattle.log_clearing.proofs.laws.droppings_keep.Goals as goal

pub returns : goal.returns
returns c = lemmas.droppings_keep
