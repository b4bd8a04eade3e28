use Rattle.log_keeper.proofs.Runs as lemmas
use Rattle.log_keeper.proofs.laws.parts_spare.Goals as goal

pub returns : goal.returns
returns c = lemmas.parts_spare
