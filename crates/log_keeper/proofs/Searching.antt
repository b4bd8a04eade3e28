-- A gate is found among ascending ones.
use Rattle.std.proofs.Common.{◌≡◌, inl, inr, ℕ, zero, suc, ◌<◌, Bool, true, false, List, [], ◌∷◌, length, get_or, Ok, Err, refl, sym, subst, arith}
use Rattle.std.specs.Prelude.{Result, is_ok}
use Rattle.std.specs.List.Sorted.{IsBinarySearchResult}
use Rattle.std.specs.Ordering.{nat_cmp}
use Rattle.std.proofs.lemmas.Bool.{cases_lt}
use Rattle.std.proofs.lemmas.List.Sorted.{searched}
use Rattle.persist_model.specs.Records.{IsAmong}
use Rattle.log_keeper.specs.Ledger.{is_in}
use Rattle.log_keeper.specs.Slots.{AreAscending}
use Rattle.log_keeper.proofs.Groups.{in_told, in_found}

at_among : (xs : List ℕ) (i : ℕ) → i < length xs → IsAmong xs (get_or xs i 0)
at_among [] i lt = absurd (omega (arith, lt))
at_among (x ∷ xs) zero lt = inl refl
at_among (x ∷ xs) (suc i) lt = inr (at_among xs i (omega (arith, lt)))

among_at : (xs : List ℕ) (a : ℕ) → IsAmong xs a → (i : ℕ) × (i < length xs) × (get_or xs i 0 ≡ a)
among_at [] a m = absurd m
among_at (x ∷ xs) a (inl e) = (0, omega arith, sym e)
among_at (x ∷ xs) a (inr m) = let k = among_at xs a m in (suc k.0, (let lt = k.1 in omega (arith, lt)), k.2)

by_value : (t : Bool) → (t ≡ true → ⊥) → false ≡ t
by_value true no_way = absurd (no_way refl)
by_value false no_way = refl

pub search_is : (gates : List ℕ) (a : ℕ) (r : Result ℕ ℕ) → AreAscending gates → IsBinarySearchResult (λ y. nat_cmp y a) gates r → is_ok r ≡ is_in gates a
search_is gates a (Ok i) up h = let k = searched gates a (Ok i) h up in sym (in_told gates a (subst (IsAmong gates) k.1 (at_among gates i k.0)))
search_is gates a (Err i) up h = by_value (is_in gates a) (λ on. (
    let k = searched gates a (Err i) h up in
    let m = among_at gates a (in_found gates a on) in
    let at = m.2 in
    elim (cases_lt m.0 i) [
      | inl lt ↦ (let low = k.1 m.0 lt in omega (arith, low, at))
      | inr ge ↦ (let high = k.2 m.0 ge m.1 in omega (arith, high, at))
    ]))
