use Rattle.noforce_policy.proofs.Sweeps as lemmas
use Rattle.noforce_policy.proofs.laws.sweeps_tell.Goals as goal

pub returns : goal.returns
returns c = lemmas.sweeps_tell
