use Rattle.save_point.proofs.UndoImages as lemmas
use Rattle.save_point.proofs.laws.gates_serve.Goals as goal

pub returns : goal.returns
returns c = lemmas.gates_serve
