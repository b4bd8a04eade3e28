use Rattle.log_laws.proofs.Groups as lemmas
use Rattle.log_laws.proofs.groups_keep.Goals as goal

pub returns : goal.returns
returns c = lemmas.groups_keep
