-- The records of one transaction, and the gates of all records.
use Rattle.std.specs.Prelude.{ℕ, if◌then◌else◌, List, [], ◌∷◌}
use Rattle.persist_model.specs.Records.{Record, Log, IsAmong}
use Rattle.persist_model.specs.Need.{is_of}
use Rattle.log_clearing.specs.Closed.{AreGroups, IsListed}

-- the records of t, newest first
abbrev pub records_of : ℕ → Log → Log
records_of t [] = []
records_of t (r ∷ log) = if is_of t r then r ∷ records_of t log else records_of t log

-- The lists have the gates of all of the log's records, each in its group, and no others.
pub record ListsAll (log : Log) (gates ends checkpoints : List ℕ) : Type 0 where
  pub groups : AreGroups log gates ends checkpoints
  pub each : (r : Record) → IsAmong log r → IsListed gates ends checkpoints r
