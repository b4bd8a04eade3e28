use Rattle.std.proofs.Common.{◌≡◌, ◌++◌, map, take, drop}
use Rattle.log_keeper.specs.Noting.{staged_entry}
use Rattle.log_keeper.proofs.ledger.stage_all.Given as goal

abbrev pub invariant-loop-entry : goal.invariant-loop-entry
invariant-loop-entry l = l.entries ≡ map (staged_entry l.number l.stage) (take l.entry-index l.initial.entries) ++ drop l.entry-index l.initial.entries
