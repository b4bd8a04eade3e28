use Rattle.std.proofs.Common.{◌≡◌, take}
use Rattle.std.specs.Prelude.{sum_by}
use Rattle.persist_model.specs.Records.{Log}
use Rattle.persist_model.specs.Need.{need_of}
use Rattle.recovery_analysis.specs.declared.grouping.Transaction.{Transaction}
use Rattle.recovery_analysis.specs.Needs.{AreSmall}
use Rattle.recovery_analysis.proofs.working.total_need.Given as goal

abbrev pub invariant-loop-transaction : goal.invariant-loop-transaction
invariant-loop-transaction l = (log : Log) → AreSmall log l.undo → l.total ≡ sum_by (λ (t : Transaction). need_of log t.number) (take l.transaction-index l.undo)
