use Rattle.log_clearing.proofs.PartPlans as lemmas
use Rattle.log_clearing.proofs.laws.closings_are_on_part.Goals as goal

pub returns : goal.returns
returns c = lemmas.closings_are_on_part
