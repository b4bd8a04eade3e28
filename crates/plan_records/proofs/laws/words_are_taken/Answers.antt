use Rattle.plan_records.proofs.HeapRegions as lemmas
use Rattle.plan_records.proofs.laws.words_are_taken.Goals as goal

pub returns : goal.returns
returns c = lemmas.words_are_taken
