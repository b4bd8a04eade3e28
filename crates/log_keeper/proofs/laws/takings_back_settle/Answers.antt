use Rattle.log_keeper.proofs.Groups as lemmas
use Rattle.log_keeper.proofs.laws.takings_back_settle.Goals as goal

pub returns : goal.returns
returns c = lemmas.takings_back_settle
