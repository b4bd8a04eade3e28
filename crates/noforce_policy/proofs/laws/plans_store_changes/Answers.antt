use Rattle.noforce_policy.proofs.StoredChanges as lemmas
use Rattle.noforce_policy.proofs.laws.plans_store_changes.Goals as goal

pub returns : goal.returns
returns c = lemmas.plans_store_changes
