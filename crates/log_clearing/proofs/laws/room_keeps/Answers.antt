use Rattle.log_clearing.proofs.RemovalStates as lemmas
use Rattle.log_clearing.proofs.laws.room_keeps.Goals as goal

pub returns : goal.returns
returns c = lemmas.room_keeps
