-- What is found of a map of cells.
use Rattle.std.specs.Prelude.{◌≡◌, ◌↔◌, ℕ, ◌+◌, ◌*◌, ◌<◌, List, [], ◌∷◌, ◌++◌, None, if◌then◌else◌, ◌==◌, nat_lt}
use Rattle.persist_model.specs.Region.{Words}
use Rattle.lane_traits.specs.declared.words.Pair.{Pair}
use Rattle.region_layout.specs.FiniteMap.{FiniteMap, HasAscendingKeys, lookup}
use Rattle.region_layout.specs.CellsMap.{cell_of, value_or_none}
use Rattle.image_runner.specs.Maps.{entries_of}

-- of so many blocks the structure owns its root and no other
abbrev pub OwnsRootAlone : ℕ → Words → ℕ → ℕ → Type 0
OwnsRootAlone heap w structure blocks = (k : ℕ) → k < blocks → (w (heap + 16 * k) ≡ structure + 1) ↔ (k ≡ structure)

-- the pairs with this cell's, where it has a value
abbrev pub with_cell : ℕ → ℕ → List Pair → List Pair
with_cell key value pairs = if value == 0 then pairs else pairs ++ record { key = key; value = value } ∷ []

-- the keys are below this one
abbrev pub AreKeysBelow : ℕ → FiniteMap → Type 0
AreKeysBelow n [] = Unit {0}
AreKeysBelow n (p ∷ ps) = (p.0 < n) × AreKeysBelow n ps

-- the pairs of the cells with the first n keys
pub record AreCellsBelow (n : ℕ) (w : Words) (root : ℕ) (pairs : List Pair) : Type 0 where
  pub ascending : HasAscendingKeys (entries_of pairs)
  pub below : AreKeysBelow n (entries_of pairs)
  pub lookup_is : (key : ℕ) → lookup key (entries_of pairs) ≡ (if nat_lt key n then value_or_none (w (cell_of root key)) else None)
