use Rattle.persist_model.specs.Records.{Log, IsRunning}
use Rattle.recovery_analysis.specs.Grouping.{AreTransactionsOf}
use Rattle.recovery_analysis.proofs.Picked.{ArePicked}
use Rattle.recovery_analysis.proofs.picking.losers_of.Given as goal

abbrev pub invariant-loop-transaction : goal.invariant-loop-transaction
invariant-loop-transaction l = (log : Log) → AreTransactionsOf log l.all → ArePicked (IsRunning log) l.all l.transaction-index l.found
