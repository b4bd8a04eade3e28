use Rattle.log_keeper.proofs.Runs as lemmas
use Rattle.log_keeper.proofs.laws.runs_keep.Goals as goal

pub returns : goal.returns
returns c = lemmas.runs_keep
