use Rattle.noforce_policy.proofs.Backed as lemmas
use Rattle.noforce_policy.proofs.laws.events_keep_backed.Goals as goal

pub returns : goal.returns
returns c = lemmas.events_keep_backed
