use Rattle.plan_records.proofs.HeapRegions as lemmas
use Rattle.plan_records.proofs.laws.heap_images_reach.Goals as goal

pub returns : goal.returns
returns c = lemmas.heap_images_reach
