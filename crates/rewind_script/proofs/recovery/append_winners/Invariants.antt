use Rattle.std.proofs.Common.{◌≡◌, ◌++◌, take}
use Rattle.std.specs.List.{flat_map}
use Rattle.rewind_script.specs.Recovery.{winner_line}
use Rattle.rewind_script.proofs.recovery.append_winners.Given as goal

abbrev pub invariant-loop-transaction : goal.invariant-loop-transaction
invariant-loop-transaction l = l.text ≡ l.initial.text ++ flat_map winner_line (take l.transaction-index l.transactions)
