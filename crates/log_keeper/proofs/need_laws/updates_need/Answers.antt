use Rattle.log_keeper.proofs.Needs as lemmas
use Rattle.log_keeper.proofs.need_laws.updates_need.Goals as goal

pub returns : goal.returns
returns c = lemmas.updates_need
