use Rattle.std.proofs.Common.{◌≡◌, ◌-◌, ◌^◌, ℕ, min}
use Rattle.persist_model.specs.Records.{Log}
use Rattle.persist_model.specs.State.{total_need}
use Rattle.log_tables.specs.Homes.{AreTransactions}
use Rattle.sound_check.proofs.numbers.total_need.Given as goal

abbrev pub invariant-loop-p : goal.invariant-loop-p
invariant-loop-p l = (part : ℕ → ℕ) (log : Log) → AreTransactions part l.all log → l.sum ≡ min (total_need part l.p log) (2 ^ 64 - 1)
