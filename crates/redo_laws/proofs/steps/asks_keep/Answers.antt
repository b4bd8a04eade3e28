use Rattle.redo_laws.proofs.Asking as lemmas
use Rattle.redo_laws.proofs.steps.asks_keep.Goals as goal

pub returns : goal.returns
returns c = lemmas.asks_keep
