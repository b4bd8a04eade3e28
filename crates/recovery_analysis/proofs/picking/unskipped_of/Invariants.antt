use Rattle.persist_model.specs.Records.{Log}
use Rattle.recovery_analysis.specs.Grouping.{AreTransactionsOf}
use Rattle.recovery_analysis.specs.Fates.{IsNewestCheckpoint}
use Rattle.recovery_analysis.specs.Analyses.{IsUnskipped}
use Rattle.recovery_analysis.proofs.Picked.{ArePicked}
use Rattle.recovery_analysis.proofs.picking.unskipped_of.Given as goal

abbrev pub invariant-loop-transaction : goal.invariant-loop-transaction
invariant-loop-transaction l = (log : Log) → AreTransactionsOf log l.all → IsNewestCheckpoint log l.fn.checkpoint → ArePicked (IsUnskipped log) l.all l.transaction-index l.found
