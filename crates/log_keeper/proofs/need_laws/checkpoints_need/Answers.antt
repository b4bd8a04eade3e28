use Rattle.log_keeper.proofs.Needs as lemmas
use Rattle.log_keeper.proofs.need_laws.checkpoints_need.Goals as goal

pub returns : goal.returns
returns c = lemmas.checkpoints_need
