-- Lanes before their first calls, one made behind the other.
use Rattle.std.proofs.Common.{◌≡◌, ℕ, zero, suc, ◌+◌, ◌≤◌, List, [], ◌∷◌, ◌++◌, length, get_or, refl, sym, ◌∙◌, ap, subst, arith}
use Rattle.std.proofs.Math.ListN.{length-append}
use Rattle.lane_book.specs.declared.lane.Lane.{Lane}
use Rattle.lane_book.specs.FacesOf.{idle_lane}
use Rattle.lane_book.specs.Books.{IsLane}
use Rattle.lane_book.proofs.Keeps.{idle_is}

-- so many idle lanes, in a list with room for all
pub record AreIdle {E : Type 0} (n count capacity : ℕ) (lanes : List (Lane E)) : Type 0 where
  pub many : length lanes ≡ n
  pub idle : (l : ℕ) → get_or lanes l idle_lane ≡ idle_lane
  pub room : count ≤ capacity

idle_more : {E : Type 0} (lanes : List (Lane E)) → ((l : ℕ) → get_or lanes l idle_lane ≡ idle_lane) →
    (l : ℕ) → get_or (lanes ++ idle_lane ∷ []) l idle_lane ≡ idle_lane
idle_more [] idle zero = refl
idle_more [] idle (suc l) = refl
idle_more (x ∷ lanes) idle zero = idle 0
idle_more (x ∷ lanes) idle (suc l) = idle_more lanes (λ k. idle (suc k)) l

pub all_idle : {E : Type 0} (n : ℕ) (lanes : List (Lane E)) → ((l : ℕ) → get_or lanes l idle_lane ≡ idle_lane) → (l : ℕ) → IsLane n (get_or lanes l idle_lane)
all_idle n lanes idle l = subst (IsLane n) (sym (idle l)) (idle_is n)

pub one_more : {E : Type 0} (n count capacity later : ℕ) (lane : Lane E) (lanes made : List (Lane E)) → lane ≡ idle_lane → made ≡ lanes ++ lane ∷ [] → later ≡ capacity →
    AreIdle n count capacity lanes → AreIdle (n + 1) count later made
one_more n count capacity later lane lanes made is grown same are = record {
  many = ap (λ (xs : List (Lane _)). length xs) grown ∙ length-append lanes (lane ∷ []) ∙ ap (λ (m : ℕ). m + 1) are.many;
  idle = λ l. ap (λ (xs : List (Lane _)). get_or xs l idle_lane) (grown ∙ ap (λ (x : Lane _). lanes ++ x ∷ []) is) ∙ idle_more lanes are.idle l;
  room = let room = are.room in omega (arith, room, same);
}
