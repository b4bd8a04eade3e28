use Rattle.batch_log.proofs.GroupLaws as lemmas
use Rattle.batch_log.proofs.laws.groups_lead.Goals as goal

pub returns : goal.returns
returns c = lemmas.groups_lead
