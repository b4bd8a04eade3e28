use Rattle.log_keeper.proofs.Ending as lemmas
use Rattle.log_keeper.proofs.laws.appends_settle.Goals as goal

pub returns : goal.returns
returns c = lemmas.appends_settle
