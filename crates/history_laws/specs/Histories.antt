-- What transactions that commit write, one after another.
use Rattle.std.specs.Prelude.{◌≡◌, ℕ, List, [], ◌∷◌}
use Rattle.persist_model.specs.Region.{Words}
use Rattle.persist_model.specs.Progress.{Write, latest}

-- a transaction, and what it writes, in order
pub record Entry : Type 0 where
  pub transaction : ℕ
  pub writes : List Write

-- the value of the word a behind these entries, u being the one before
abbrev pub value_behind : List Entry → ℕ → ℕ → ℕ
value_behind [] a u = u
value_behind (e ∷ entries) a u = value_behind entries a (latest e.writes a u)

-- the heap behind them
abbrev pub fold : Words → List Entry → Words
fold heap entries = λ a. value_behind entries a (heap a)

-- the entry leaves the word a as it is
abbrev pub LeavesWord : Entry → ℕ → Type 0
LeavesWord e a = (u : ℕ) → latest e.writes a u ≡ u
