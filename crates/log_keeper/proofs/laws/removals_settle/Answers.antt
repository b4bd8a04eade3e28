use Rattle.log_keeper.proofs.Ending as lemmas
use Rattle.log_keeper.proofs.laws.removals_settle.Goals as goal

pub returns : goal.returns
returns c = lemmas.removals_settle
