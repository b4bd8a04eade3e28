use Rattle.noforce_policy.proofs.Sweeps as lemmas
use Rattle.noforce_policy.proofs.laws.log_events_are_beside.Goals as goal

pub returns : goal.returns
returns c = lemmas.log_events_are_beside
