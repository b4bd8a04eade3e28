-- What contracts see of slots.
use Rattle.std.specs.Prelude.{ℕ, List}

-- the buckets that a group takes, the chain's last bucket, or 0, and how many more buckets can be put in without memory
pub record ChosenSlots : Type 0 where
  pub buckets : List ℕ
  pub tail : ℕ
  pub spare : ℕ
