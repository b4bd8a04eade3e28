use Rattle.save_point.proofs.Newest as lemmas
use Rattle.save_point.proofs.laws.gates_are_closed.Goals as goal

pub returns : goal.returns
returns c = lemmas.gates_are_closed
