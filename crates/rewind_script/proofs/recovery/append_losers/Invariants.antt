use Rattle.std.proofs.Common.{◌≡◌, ◌++◌, take}
use Rattle.std.specs.List.{flat_map}
use Rattle.rewind_script.specs.Recovery.{loser_line}
use Rattle.rewind_script.proofs.recovery.append_losers.Given as goal

abbrev pub invariant-loop-transaction : goal.invariant-loop-transaction
invariant-loop-transaction l = l.text ≡ l.initial.text ++ flat_map loser_line (take l.transaction-index l.transactions)
