use Rattle.log_keeper.proofs.Needs as lemmas
use Rattle.log_keeper.proofs.need_laws.passings_come.Goals as goal

pub returns : goal.returns
returns c = lemmas.passings_come
