use Rattle.lane_worker.proofs.Keeping.{stepped_ready}
use Rattle.lane_worker.proofs.laws.stepped_is_ready.Goals as goal

pub returns : goal.returns
returns c = stepped_ready
