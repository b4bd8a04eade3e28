use Rattle.history_laws.proofs.Growing as lemmas
use Rattle.history_laws.proofs.history_grows.Goals as goal

pub returns : goal.returns
returns c = lemmas.history_grows
