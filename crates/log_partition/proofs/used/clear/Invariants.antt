use Rattle.std.proofs.Common.{◌≡◌, ℕ, ◌<◌, false, length, get_or}
use Rattle.log_partition.proofs.used.clear.Given as goal

abbrev pub invariant-loop-i : goal.invariant-loop-i
invariant-loop-i l = record {
  long : length l.marks.items ≡ length l.initial.marks.items;
  none : (j : ℕ) → j < l.i → get_or l.marks.items j false ≡ false;
}
