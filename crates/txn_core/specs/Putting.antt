-- The calls that store one word, whose update is appended before.
use Rattle.std.specs.Prelude.{ℕ}
use Rattle.region_layout.specs.declared.layout.Layout.{Layout}
use Rattle.lane_book.specs.declared.lane.Doing.{Doing}
use Rattle.txn_state.specs.Ties.{owned}

-- The lane is to write this value at this address: it is in a write, or takes a block, whose owner word it is.
pub data Puts (layout : Layout) : Doing → ℕ → ℕ → Type 0 where
  write : {a v : ℕ} → Puts layout (Doing.Write a v) a v
  take : {s k : ℕ} → Puts layout (Doing.Take s k) (owned layout s k).address (owned layout s k).value
