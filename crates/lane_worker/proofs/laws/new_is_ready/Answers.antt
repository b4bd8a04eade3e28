use Rattle.lane_worker.proofs.Starting.{new_ready}
use Rattle.lane_worker.proofs.laws.new_is_ready.Goals as goal

pub returns : goal.returns
returns c = new_ready
