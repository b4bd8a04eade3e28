-- A keeper as the tests have it.
use Rattle.std.specs.Prelude.{◌≡◌, ℕ, length}
use Rattle.log_keeper.specs.declared.keeper.LogKeeper.{LogKeeper}

-- it has a slot for each of so many partitions
pub record IsKeeperOf (partitions : ℕ) (keeper : LogKeeper) : Type 0 where
  pub slots : length keeper.slots.items ≡ partitions
