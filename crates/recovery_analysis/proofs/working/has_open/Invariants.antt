use Rattle.std.proofs.Common.{take}
use Rattle.persist_model.specs.Records.{Log, IsAmong, IsSkipped}
use Rattle.recovery_analysis.specs.declared.grouping.Transaction.{Transaction}
use Rattle.recovery_analysis.specs.Grouping.{AreTransactionsOf}
use Rattle.recovery_analysis.specs.Fates.{IsNewestCheckpoint}
use Rattle.recovery_analysis.proofs.working.has_open.Given as goal

abbrev pub invariant-loop-transaction : goal.invariant-loop-transaction
invariant-loop-transaction l = (log : Log) → AreTransactionsOf log l.all → IsNewestCheckpoint log l.checkpoint → (t : Transaction) → IsAmong (take l.transaction-index l.all) t → IsSkipped log t.number
