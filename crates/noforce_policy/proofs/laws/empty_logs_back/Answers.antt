use Rattle.noforce_policy.proofs.Backed as lemmas
use Rattle.noforce_policy.proofs.laws.empty_logs_back.Goals as goal

pub returns : goal.returns
returns c = lemmas.empty_logs_back
