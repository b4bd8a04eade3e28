use Rattle.history_laws.proofs.Growing as lemmas
use Rattle.history_laws.proofs.uncovered_are_settled.Goals as goal

pub returns : goal.returns
returns c = lemmas.uncovered_are_settled
