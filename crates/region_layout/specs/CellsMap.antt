-- The map in a structure of kind cells: key k is word 4 + k of the root block, and 0 stands for none.
use Rattle.std.specs.Prelude.{◌≡◌, ℕ, ◌+◌, Option, Some, None, if◌then◌else◌, ◌==◌, nat_lt, refl}
use Rattle.persist_model.specs.Region.{Words}
use Rattle.lane_traits.specs.Space.{Land, IsOwn}
use Rattle.region_layout.specs.FiniteMap.{FiniteMap, HasAscendingKeys, lookup}

-- the keys are the numbers below this one
abbrev pub CELL_KEYS : ℕ
CELL_KEYS = 12

abbrev pub cell_of : ℕ → ℕ → ℕ
cell_of root key = root + 4 + key

abbrev pub value_or_none : ℕ → Option ℕ
value_or_none v = if v == 0 then None else Some v

-- the value that the cells hold for a key
abbrev pub cell_value : Words → ℕ → ℕ → Option ℕ
cell_value w root key = if nat_lt key CELL_KEYS then value_or_none (w (cell_of root key)) else None

-- The structure owns its root alone, and the words are a map with these entries.
pub record IsCellsMap (land : Land) (w : Words) (root : ℕ) (contents : FiniteMap) : Type 0 where
  pub root_own : IsOwn land root
  pub alone : (b : ℕ) → IsOwn land b → b ≡ root
  pub ascending : HasAscendingKeys contents
  pub lookup_is : (key : ℕ) → lookup key contents ≡ cell_value w root key

-- ---- small cells: keys 0 and 11 of a root block at address 16

small : Words
small a = if a == 20 then 5 else (if a == 31 then 7 else 0)

first_key : cell_value small 16 0 ≡ Some 5
unfolding small
first_key = refl

last_key : cell_value small 16 11 ≡ Some 7
unfolding small
last_key = refl

no_value : cell_value small 16 1 ≡ None
unfolding small
no_value = refl

no_key : cell_value small 16 12 ≡ None
unfolding small
no_key = refl
