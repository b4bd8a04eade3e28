-- What the calls promise.
use Rattle.std.specs.Prelude.{◌≡◌, ℕ, ◌==◌, if◌then◌else◌, [], ◌∷◌}
use Rattle.lane_traits.specs.Space.{Space, IsDataWordOf}
use Rattle.lane_traits.specs.declared.words.Pair.{Pair}
use Rattle.region_layout.specs.FiniteMap.{FiniteMap}
use Rattle.region_layout.specs.Contents.{IsMapIn}
use Rattle.region_layout.specs.declared.layout.Kind.TheVariants as kind

-- the words are this map
abbrev pub Holds : Space → ℕ → FiniteMap → Type 0
Holds s root contents = IsMapIn kind.Cells s.land s.word root contents

-- the words are a map
pub record HoldsMap (s : Space) (root : ℕ) : Type 0 where
  pub contents : FiniteMap
  pub is : Holds s root contents

-- no block was taken or given
pub record KeepsBlocks (s u : Space) : Type 0 where
  pub land : u.land ≡ s.land
  pub spare : u.spare ≡ s.spare

-- the words that are no data words of the structure's blocks stay
abbrev pub KeepsOthers : Space → Space → Type 0
KeepsOthers s u = (a : ℕ) → (IsDataWordOf s.land a → ⊥) → u.word a ≡ s.word a

abbrev pub entry_of : Pair → ℕ × ℕ
entry_of p = (p.key, p.value)

-- the entry of a key whose word is this one
abbrev pub entry_if : ℕ → ℕ → FiniteMap
entry_if key v = if v == 0 then [] else (key, v) ∷ []
