use Rattle.lane_worker.proofs.Keeping.{stepped_asking}
use Rattle.lane_worker.proofs.laws.stepped_is_asking.Goals as goal

pub returns : goal.returns
returns c = stepped_asking
