use Rattle.lane_worker.proofs.Told.{begins_are_told}
use Rattle.lane_worker.proofs.laws.begins_are_told.Goals as goal

pub returns : goal.returns
returns c = begins_are_told
