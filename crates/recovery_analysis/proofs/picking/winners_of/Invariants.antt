use Rattle.persist_model.specs.Records.{Log, IsCommitted}
use Rattle.recovery_analysis.specs.Grouping.{AreTransactionsOf}
use Rattle.recovery_analysis.proofs.Picked.{ArePicked}
use Rattle.recovery_analysis.proofs.picking.winners_of.Given as goal

abbrev pub invariant-loop-transaction : goal.invariant-loop-transaction
invariant-loop-transaction l = (log : Log) → AreTransactionsOf log l.all → ArePicked (IsCommitted log) l.all l.transaction-index l.found
