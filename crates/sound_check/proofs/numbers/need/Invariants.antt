use Rattle.std.proofs.Common.{◌≡◌, ◌-◌, ◌^◌, ℕ, min, take}
use Rattle.std.specs.Prelude.{sum_by}
use Rattle.persist_model.specs.Records.{Log}
use Rattle.persist_model.specs.Need.{need_of}
use Rattle.log_tables.specs.Homes.{share_of, AreTransactions}
use Rattle.sound_check.proofs.numbers.need.Given as goal

abbrev pub invariant-loop-home : goal.invariant-loop-home
invariant-loop-home l = (part : ℕ → ℕ) (log : Log) → AreTransactions part l.all log → l.sum ≡ min (sum_by (share_of l.p (need_of log)) (take l.home-index l.all.homes.items)) (2 ^ 64 - 1)
