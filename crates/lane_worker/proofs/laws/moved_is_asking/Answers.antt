use Rattle.lane_worker.proofs.Keeping.{moved}
use Rattle.lane_worker.proofs.laws.moved_is_asking.Goals as goal

pub returns : goal.returns
returns c = moved
