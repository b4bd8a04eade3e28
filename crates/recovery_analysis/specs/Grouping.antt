-- The records of a log, by transaction.
use Rattle.std.specs.Prelude.{◌≡◌, ℕ, ◌<◌, ◌≤◌, List, [], ◌∷◌, ◌++◌, map, reverse}
use Rattle.persist_model.specs.Records.{Log, IsAmong, Has, IsOf}
use Rattle.bucket_log.specs.declared.scanning.Placed.{Placed}
use Rattle.bucket_log.specs.Scans.{record_of_placed}
use Rattle.recovery_run.specs.Groups.{records_of}
use Rattle.recovery_analysis.specs.declared.grouping.Transaction.{Transaction}

-- each number is below those behind it
abbrev pub IsAscending : List ℕ → Type 0
IsAscending [] = Unit {0}
IsAscending (n ∷ ns) = ((m : ℕ) → IsAmong ns m → n < m) × IsAscending ns

-- t has records in the log, and these are all of them, ascending.
pub record IsTransactionOf (log : Log) (t : Transaction) : Type 0 where
  pub some : Has (IsOf t.number) log
  pub records : reverse (map record_of_placed t.records) ≡ records_of t.number log

abbrev pub number_of : Transaction → ℕ
number_of t = t.number

-- These are all transactions of the log, ascending by number.
pub record AreTransactionsOf (log : Log) (all : List Transaction) : Type 0 where
  pub ascending : IsAscending (map number_of all)
  pub each : (t : Transaction) → IsAmong all t → IsTransactionOf log t
  pub whole : (n : ℕ) → Has (IsOf n) log → IsAmong (map number_of all) n

-- ---- records put together

-- the transactions don't fall
abbrev pub Rises : List Placed → Type 0
Rises [] = Unit {0}
Rises (x ∷ xs) = ((y : Placed) → IsAmong xs y → x.cell.transaction ≤ y.cell.transaction) × Rises xs

-- the records of these transactions, one transaction behind the other
abbrev pub all_records : List Transaction → List Placed
all_records [] = []
all_records (t ∷ all) = t.records ++ all_records all

pub record IsRun (t : Transaction) : Type 0 where
  pub some : (x : Placed) × IsAmong t.records x
  pub own : (x : Placed) → IsAmong t.records x → x.cell.transaction ≡ t.number

-- the records xs, cut where the transaction changes
pub record AreRuns (all : List Transaction) (xs : List Placed) : Type 0 where
  pub ascending : IsAscending (map number_of all)
  pub runs : (t : Transaction) → IsAmong all t → IsRun t
  pub whole : all_records all ≡ xs
