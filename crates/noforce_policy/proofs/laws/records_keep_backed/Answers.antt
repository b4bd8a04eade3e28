use Rattle.noforce_policy.proofs.Backed as lemmas
use Rattle.noforce_policy.proofs.laws.records_keep_backed.Goals as goal

pub returns : goal.returns
returns c = lemmas.records_keep_backed
