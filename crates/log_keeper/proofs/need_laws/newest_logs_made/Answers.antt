use Rattle.log_keeper.proofs.Newest as lemmas
use Rattle.log_keeper.proofs.need_laws.newest_logs_made.Goals as goal

pub returns : goal.returns
returns c = lemmas.newest_logs_made
