-- Which values were seen.
use Rattle.std.specs.Prelude.{ℕ, Bool, true, false, not, ◌==◌}
use Rattle.log_tables.specs.declared.seen.Seen.{Seen}
use Rattle.log_tables.specs.declared.seen.Seen.TheVariants.{Nothing, Only, Several}

-- another value than v was seen
abbrev pub has_other : Seen → ℕ → Bool
has_other Nothing v = false
has_other (Only x) v = not (x == v)
has_other Several v = true
