use Rattle.batch_log.proofs.GroupsAtOnce as lemmas
use Rattle.batch_log.proofs.laws.groups_come_at_once.Goals as goal

pub returns : goal.returns
returns c = lemmas.groups_come_at_once
