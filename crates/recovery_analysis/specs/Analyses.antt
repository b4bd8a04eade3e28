-- Lists of transactions.
use Rattle.std.specs.Prelude.{ℕ, ◌↔◌, List}
use Rattle.persist_model.specs.Records.{Log, IsAmong, IsEnded, IsSkipped, IsCommitted, IsLoser}
use Rattle.recovery_analysis.specs.declared.analysing.Analysis.{Analysis}
use Rattle.recovery_analysis.specs.Grouping.{IsAscending}

-- the numbers that have P, ascending
pub record AreThose (P : ℕ → Type 0) (numbers : List ℕ) : Type 0 where
  pub ascending : IsAscending numbers
  pub each : (n : ℕ) → IsAmong numbers n ↔ P n

-- ended, and not in the heap for good
abbrev pub IsUnskipped : Log → ℕ → Type 0
IsUnskipped log t = IsEnded log t × (IsSkipped log t → ⊥)

-- The winners are the committed transactions of the log, and the losers the running ones.
pub record IsAnalysisOf (log : Log) (analysis : Analysis) : Type 0 where
  pub winners : AreThose (IsCommitted log) analysis.winners
  pub losers : AreThose (IsLoser log) analysis.losers
