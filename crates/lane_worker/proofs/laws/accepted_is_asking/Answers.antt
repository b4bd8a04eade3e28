use Rattle.lane_worker.proofs.Keeping.{accepted}
use Rattle.lane_worker.proofs.laws.accepted_is_asking.Goals as goal

pub returns : goal.returns
returns c = accepted
