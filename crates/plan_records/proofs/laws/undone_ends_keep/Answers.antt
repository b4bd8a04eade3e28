use Rattle.plan_records.proofs.UndoneEnds as lemmas
use Rattle.plan_records.proofs.laws.undone_ends_keep.Goals as goal

pub returns : goal.returns
returns c = lemmas.undone_ends_keep
