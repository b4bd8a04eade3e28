-- Finite maps: the entries, a key and its value each, ascending by key.
use Rattle.std.specs.Prelude.{◌≡◌, ℕ, ◌<◌, ◌≤◌, List, [], ◌∷◌, Option, Some, None, if◌then◌else◌, ◌==◌, nat_lt, refl}

abbrev pub FiniteMap : Type 0
FiniteMap = List (ℕ × ℕ)

-- the value of a key
abbrev pub lookup : ℕ → FiniteMap → Option ℕ
lookup key [] = None
lookup key (p ∷ ps) = if key == p.0 then Some p.1 else lookup key ps

-- the map with this value for the key
abbrev pub with_pair : ℕ → ℕ → FiniteMap → FiniteMap
with_pair key value [] = (key, value) ∷ []
with_pair key value (p ∷ ps) =
    if key == p.0 then (key, value) ∷ ps
    else (if nat_lt key p.0 then (key, value) ∷ (p ∷ ps) else p ∷ with_pair key value ps)

-- the map without the key
abbrev pub without_key : ℕ → FiniteMap → FiniteMap
without_key key [] = []
without_key key (p ∷ ps) = if key == p.0 then ps else p ∷ without_key key ps

-- each key is greater than this one
abbrev pub AreAfter : ℕ → FiniteMap → Type 0
AreAfter key [] = Unit {0}
AreAfter key (p ∷ ps) = (key < p.0) × AreAfter key ps

-- each key is smaller than those behind it
abbrev pub HasAscendingKeys : FiniteMap → Type 0
HasAscendingKeys [] = Unit {0}
HasAscendingKeys (p ∷ ps) = AreAfter p.0 ps × HasAscendingKeys ps

-- the values are at least 1
abbrev pub HasValues : FiniteMap → Type 0
HasValues [] = Unit {0}
HasValues (p ∷ ps) = (1 ≤ p.1) × HasValues ps

-- ---- small maps

lookup-small : lookup 5 ((2, 20) ∷ (5, 50) ∷ []) ≡ Some 50
lookup-small = refl

lookup-absent : lookup 3 ((2, 20) ∷ (5, 50) ∷ []) ≡ None
lookup-absent = refl

with_pair-absent : with_pair 3 30 ((2, 20) ∷ (5, 50) ∷ []) ≡ (2, 20) ∷ (3, 30) ∷ (5, 50) ∷ []
with_pair-absent = refl

with_pair-present : with_pair 5 51 ((2, 20) ∷ (5, 50) ∷ []) ≡ (2, 20) ∷ (5, 51) ∷ []
with_pair-present = refl

without_key-present : without_key 2 ((2, 20) ∷ (5, 50) ∷ []) ≡ (5, 50) ∷ []
without_key-present = refl

without_key-absent : without_key 3 ((2, 20) ∷ (5, 50) ∷ []) ≡ (2, 20) ∷ (5, 50) ∷ []
without_key-absent = refl
