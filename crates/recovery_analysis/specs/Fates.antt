-- What decides whether an ended transaction is skipped.
use Rattle.std.specs.Prelude.{ℕ, ◌<◌, ◌↔◌}
use Rattle.persist_model.specs.Records.{Log, Has, IsCheckpoint}

-- c is the number of the newest checkpoint record, or 0: a number is below it where it is below that of some checkpoint record.
abbrev pub IsNewestCheckpoint : Log → ℕ → Type 0
IsNewestCheckpoint log c = (e : ℕ) → (e < c) ↔ Has (λ r. IsCheckpoint r × (e < r.lsn)) log
