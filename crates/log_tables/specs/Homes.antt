-- The transactions of a log, each once.
use Rattle.std.specs.Prelude.{◌≡◌, ℕ, ◌==◌, if◌then◌else◌, List, sum_by}
use Rattle.persist_model.specs.Records.{Log}
use Rattle.persist_model.specs.Need.{sum_over}
use Rattle.log_tables.specs.declared.transactions.Home.{Home}
use Rattle.log_tables.specs.declared.transactions.Transactions.{Transactions}
use Rattle.log_tables.specs.Tables.{AreSummaries}

-- the number of a home's transaction, where it stands in this part
abbrev pub share_of : ℕ → (ℕ → ℕ) → Home → ℕ
share_of p number home = if home.part == p then number home.transaction else 0

-- the transactions by the parts of their earliest records: a sum over those of a part is a sum over these
abbrev pub AreHomes : (ℕ → ℕ) → List Home → Log → Type 0
AreHomes part homes log = (p : ℕ) (number : ℕ → ℕ) → sum_over part p number log ≡ sum_by (share_of p number) homes

pub record AreTransactions (part : ℕ → ℕ) (all : Transactions) (log : Log) : Type 0 where
  pub summaries : AreSummaries part all.summaries log
  pub homes : AreHomes part all.homes.items log
