-- What a call of one lane leaves of a value that several lanes use.
use Rattle.std.specs.Prelude.{◌≡◌, ℕ}
use Rattle.lane_types.specs.Seen.{Seen}

-- Lanes are as many, and what stood at the lane's start is the same.
pub record KeepsPlace {E : Type 0} (lane : ℕ) (s t : Seen E) : Type 0 where
  pub lanes : t.lanes ≡ s.lanes
  pub base : (t.faces lane).base ≡ (s.faces lane).base
