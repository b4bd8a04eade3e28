use Rattle.log_keeper.proofs.EventsPass as lemmas
use Rattle.log_keeper.proofs.laws.parts_begin.Goals as goal

pub returns : goal.returns
returns c = lemmas.parts_begin
