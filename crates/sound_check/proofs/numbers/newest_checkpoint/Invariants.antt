use Rattle.std.proofs.Common.{◌≡◌, ℕ, take}
use Rattle.std.specs.Prelude.{nat_lt}
use Rattle.log_tables.specs.Rows.{log_of_rows}
use Rattle.sound_check.specs.Rows.{has_checkpoint_behind}
use Rattle.sound_check.proofs.numbers.newest_checkpoint.Given as goal

abbrev pub invariant-loop-s : goal.invariant-loop-s
invariant-loop-s l = (n : ℕ) → nat_lt n l.newest ≡ has_checkpoint_behind n (log_of_rows (take l.s-index l.rows))
