use Rattle.std.proofs.Common.{◌≡◌, take}
use Rattle.std.specs.List.{flat_map}
use Rattle.rewind.specs.Served.{lane_of}
use Rattle.rewind.proofs.served.transactions_of.Given as goal

abbrev pub invariant-loop-lane : goal.invariant-loop-lane
invariant-loop-lane l = l.transactions ≡ flat_map lane_of (take l.lane-index l.lanes)
