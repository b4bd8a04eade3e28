use Rattle.log_keeper.proofs.Groups as lemmas
use Rattle.log_keeper.proofs.laws.groups_settle.Goals as goal

pub returns : goal.returns
returns c = lemmas.groups_settle
