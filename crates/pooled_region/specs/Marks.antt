-- The list of the words that have a mark.
use Rattle.std.specs.Prelude.{◌≡◌, ◌⊎◌, ℕ, ◌<◌, ◌≤◌, true, List, length, slice_index}
use Rattle.std.specs.List.{list_any}
use Rattle.pooled_region.specs.declared.pool.Place.{Place}
use Rattle.pooled_region.specs.declared.pool.Word.{Word}
use Rattle.pooled_region.specs.Pool.{candidates_at, is_marked}

-- at this place of the list stands a word of the region, and its position says so
abbrev pub StandsAt : List ℕ → List ℕ → ℕ → Type 0
StandsAt listed positions i = (slice_index listed i < length positions) × (slice_index positions (slice_index listed i) ≡ i)

-- each place of the list is the position of its word: so no word stands there twice
abbrev pub AreListed : List ℕ → List ℕ → Type 0
AreListed listed positions = (i : ℕ) → i < length listed → StandsAt listed positions i

-- the word stands in the list
abbrev pub IsListed : List ℕ → List ℕ → ℕ → Type 0
IsListed listed positions a = (slice_index positions a < length listed) × (slice_index listed (slice_index positions a) ≡ a)

-- each word that has a mark stands in the list
abbrev pub AreFound : List Place → List Word → List ℕ → List ℕ → Type 0
AreFound places words listed positions = (a : ℕ) → list_any is_marked (candidates_at places words a) ≡ true → IsListed listed positions a

-- of the list those before `kept` stay, and those from `index` on are still to be looked at
pub record AreSifted (listed positions : List ℕ) (kept index : ℕ) : Type 0 where
  pub order : kept ≤ index
  pub front : (i : ℕ) → i < kept → StandsAt listed positions i
  pub rest : (i : ℕ) → index ≤ i → i < length listed → StandsAt listed positions i

-- the word stands there or here
abbrev pub IsLeft : List ℕ → List ℕ → ℕ → ℕ → ℕ → Type 0
IsLeft listed positions kept index a = ((slice_index positions a < kept) ⊎ ((index ≤ slice_index positions a) × (slice_index positions a < length listed)))
    × (slice_index listed (slice_index positions a) ≡ a)
