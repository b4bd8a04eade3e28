use Rattle.std.proofs.Common.{◌≡◌, ℕ, ◌<◌, get_or}
use Rattle.bucket_log.specs.declared.scanning.Placed.{Placed}
use Rattle.recovery_analysis.proofs.grouping.run_length.Given as goal

abbrev pub invariant-loop-i : goal.invariant-loop-i
invariant-loop-i l = (k : ℕ) (d : Placed) → k < l.i → (get_or l.sorted k d).cell.transaction ≡ l.transaction
