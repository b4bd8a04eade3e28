use Rattle.plan_records.proofs.HeapGoing as lemmas
use Rattle.plan_records.proofs.laws.goes_are_courses.Goals as goal

pub returns : goal.returns
returns c = lemmas.goes_are_courses
