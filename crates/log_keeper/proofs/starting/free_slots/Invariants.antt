use Rattle.std.proofs.Common.{◌≡◌, length}
use Rattle.log_keeper.specs.Starting.{AreFree}
use Rattle.log_keeper.proofs.starting.free_slots.Given as goal

abbrev pub invariant-loop : goal.invariant-loop
invariant-loop l = (length l.slots.items ≡ l.counter) × AreFree l.slots.items
