use Rattle.log_keeper.proofs.LeftNeeds as lemmas
use Rattle.log_keeper.proofs.need_laws.closings_need.Goals as goal

pub returns : goal.returns
returns c = lemmas.closings_need
