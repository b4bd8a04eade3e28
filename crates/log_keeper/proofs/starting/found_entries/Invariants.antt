use Rattle.std.proofs.Common.{◌≡◌, map, take}
use Rattle.log_keeper.specs.Starting.{found_entry}
use Rattle.log_keeper.proofs.starting.found_entries.Given as goal

abbrev pub invariant-loop-placed : goal.invariant-loop-placed
invariant-loop-placed l = l.entries.items ≡ map found_entry (take l.placed-index l.records)
