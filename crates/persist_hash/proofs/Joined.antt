-- What is in two lists that are put together.
use Rattle.std.proofs.Common.{◌≡◌, ℕ, Bool, true, false, ◌||◌, List, [], ◌∷◌, ◌++◌, ◌==◌, refl, sym, ◌∙◌, ap}
use Rattle.lane_traits.specs.Draft.{is_among}

pub or_assoc : (s t u : Bool) → ((s || t) || u) ≡ (s || (t || u))
or_assoc true t u = refl
or_assoc false t u = refl

pub or_false : (t : Bool) → (t || false) ≡ t
or_false true = refl
or_false false = refl

pub is_among-append : (xs ys : List ℕ) (b : ℕ) → is_among (xs ++ ys) b ≡ (is_among xs b || is_among ys b)
is_among-append [] ys b = refl
is_among-append (x ∷ xs) ys b = ap (λ t. (b == x) || t) (is_among-append xs ys b) ∙ sym (or_assoc (b == x) (is_among xs b) (is_among ys b))
