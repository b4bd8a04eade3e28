use Rattle.plan_records.proofs.HeapRegions as lemmas
use Rattle.plan_records.proofs.laws.log_plans_are_on_log.Goals as goal

pub returns : goal.returns
returns c = lemmas.log_plans_are_on_log
