-- What is kept of all records that were passed.
use Rattle.std.specs.Prelude.{ℕ, Bool}
use Rattle.persist_model.specs.Records.{Record, Log}
use Rattle.log_tables.specs.declared.past.Past.{Past}
use Rattle.log_tables.specs.Tables.{AreSummaries, AreNumbers, AreNews, AreClaims}

-- the marks tell which records bar others from their words
pub record IsPast (part : ℕ → ℕ) (marks : Record → Bool) (past : Past) (log : Log) : Type 0 where
  pub summaries : AreSummaries part past.summaries log
  pub numbers : AreNumbers past.numbers log
  pub news : AreNews past.news log
  pub claims : AreClaims marks past.claims log
