use Rattle.std.proofs.Common.{ℕ, ◌<◌, ◌≤◌}
use Rattle.log_partition.specs.Marks.{HasMark}
use Rattle.log_partition.proofs.used.first_free.Given as goal

abbrev pub invariant-loop-j : goal.invariant-loop-j
invariant-loop-j l = record {
  from : l.from ≤ l.j;
  passed : (i : ℕ) → l.from ≤ i → i < l.j → HasMark l.marks.items i;
}
