use Rattle.std.proofs.Common.{◌≡◌, ◌++◌, take}
use Rattle.std.specs.List.{flat_map}
use Rattle.rewind.specs.Served.{transaction_of}
use Rattle.rewind.proofs.served.push_lane.Given as goal

abbrev pub invariant-loop-item : goal.invariant-loop-item
invariant-loop-item l = l.transactions ≡ l.initial.transactions ++ flat_map transaction_of (take l.item-index l.items)
