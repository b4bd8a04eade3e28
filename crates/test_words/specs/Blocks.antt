-- The blocks of a structure behind its root.
use Rattle.std.specs.Prelude.{◌≡◌, ℕ, ◌+◌, ◌*◌, ◌<◌, List}
use Rattle.persist_model.specs.Records.{IsAmong}
use Rattle.persist_model.specs.Chain.{HasNoRepeats}

-- of n blocks from 16 on, all but the first
pub record AreOthers (n : ℕ) (found : List ℕ) : Type 0 where
  pub each : (b : ℕ) → IsAmong found b → (k : ℕ) × (0 < k) × (k < n) × (b ≡ 16 + 16 * k)
  pub all : (k : ℕ) → 0 < k → k < n → IsAmong found (16 + 16 * k)
  pub once : HasNoRepeats found
