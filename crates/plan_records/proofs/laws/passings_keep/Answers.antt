use Rattle.plan_records.proofs.PassingLaw as lemmas
use Rattle.plan_records.proofs.laws.passings_keep.Goals as goal

pub returns : goal.returns
returns c = lemmas.passings_keep
