-- The numbers of records.
use Rattle.std.specs.Prelude.{ℕ, ◌+◌, [], ◌∷◌}
use Rattle.persist_model.specs.Records.{Log}

-- the number that the next record takes
abbrev pub next_lsn : Log → ℕ
next_lsn [] = 1
next_lsn (r ∷ log) = r.lsn + 1
