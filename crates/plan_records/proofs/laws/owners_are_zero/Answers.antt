use Rattle.plan_records.proofs.Beside as lemmas
use Rattle.plan_records.proofs.laws.owners_are_zero.Goals as goal

pub returns : goal.returns
returns c = lemmas.owners_are_zero
