use Rattle.log_keeper.proofs.EventsPass as lemmas
use Rattle.log_keeper.proofs.laws.fences_pass.Goals as goal

pub returns : goal.returns
returns c = lemmas.fences_pass
