use Rattle.std.proofs.Common.{◌≡◌, ◌++◌, map, take, drop}
use Rattle.log_keeper.specs.Keeper.{held_by}
use Rattle.log_keeper.proofs.keeper.latch_all.Given as goal

abbrev pub invariant-loop-slot : goal.invariant-loop-slot
invariant-loop-slot l = l.slots ≡ map (held_by l.lane) (take l.slot-index l.initial.slots) ++ drop l.slot-index l.initial.slots
