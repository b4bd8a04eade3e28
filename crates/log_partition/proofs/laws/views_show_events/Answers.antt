use Rattle.log_partition.proofs.Views as lemmas
use Rattle.log_partition.proofs.laws.views_show_events.Goals as goal

pub returns : goal.returns
returns c = lemmas.views_show_events
