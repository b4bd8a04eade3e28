use Rattle.plan_records.proofs.Groups as lemmas
use Rattle.plan_records.proofs.laws.updates_come_at_once.Goals as goal

pub returns : goal.returns
returns c = lemmas.updates_come_at_once
