use Rattle.noforce_policy.proofs.Backed as lemmas
use Rattle.noforce_policy.proofs.laws.changes_are_backed.Goals as goal

pub returns : goal.returns
returns c = lemmas.changes_are_backed
