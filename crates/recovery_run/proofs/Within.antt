-- Plans whose words are within a region.
use Rattle.std.proofs.Common.{ℕ, zero, suc, List, [], ◌∷◌, arith}
use Rattle.std.specs.Prelude.{All}
use Rattle.persist_model.specs.declared.event.Event.{Event}
use Rattle.lane_traits.specs.Device.{IsWithin}

abbrev pub AreWithin : ℕ → List Event → Type 0
AreWithin n [] = Unit {0}
AreWithin n (e ∷ plan) = IsWithin n e × AreWithin n plan

pub all_within : (n : ℕ) (plan : List Event) → AreWithin n plan → All (IsWithin n) plan
all_within n [] h i d lt = absurd (omega (arith, lt))
all_within n (e ∷ plan) h zero d lt = h.0
all_within n (e ∷ plan) h (suc i) d lt = all_within n plan h.1 i d (omega (arith, lt))
