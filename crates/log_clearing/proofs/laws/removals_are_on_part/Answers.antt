use Rattle.log_clearing.proofs.PartPlans as lemmas
use Rattle.log_clearing.proofs.laws.removals_are_on_part.Goals as goal

pub returns : goal.returns
returns c = lemmas.removals_are_on_part
