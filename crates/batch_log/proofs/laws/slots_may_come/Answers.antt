use Rattle.batch_log.proofs.FreeSlots as lemmas
use Rattle.batch_log.proofs.laws.slots_may_come.Goals as goal

pub returns : goal.returns
returns c = lemmas.slots_may_come
