use Rattle.log_keeper.proofs.GateLists as lemmas
use Rattle.log_keeper.proofs.laws.gates_are_listed.Goals as goal

pub returns : goal.returns
returns c = lemmas.gates_are_listed
