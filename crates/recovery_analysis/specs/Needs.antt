-- The needs of some transactions.
use Rattle.std.specs.Prelude.{◌<◌, ◌^◌, List, sum_by}
use Rattle.persist_model.specs.Records.{Log, IsAmong}
use Rattle.persist_model.specs.Need.{need_of}
use Rattle.recovery_analysis.specs.declared.grouping.Transaction.{Transaction}
use Rattle.recovery_analysis.specs.Grouping.{IsTransactionOf}

-- these are transactions of the log, and all their needs together are small
pub record AreSmall (log : Log) (all : List Transaction) : Type 0 where
  pub each : (t : Transaction) → IsAmong all t → IsTransactionOf log t
  pub small : sum_by (λ (t : Transaction). need_of log t.number) all < 2 ^ 20
