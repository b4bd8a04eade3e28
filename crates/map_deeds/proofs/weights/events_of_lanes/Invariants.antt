use Rattle.std.proofs.Common.{◌≡◌, take}
use Rattle.std.specs.Prelude.{min}
use Rattle.std.specs.List.{sum_by}
use Rattle.map_deeds.specs.Weights.{lane_events}
use Rattle.map_deeds.proofs.weights.events_of_lanes.Given as goal

abbrev pub invariant-loop-lane : goal.invariant-loop-lane
invariant-loop-lane l = l.sum ≡ min (sum_by (lane_events l.bucket_cells l.batch l.kinds) (take l.lane-index l.lanes)) 18446744073709551615
