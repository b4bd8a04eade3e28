-- What the calls promise.
use Rattle.std.specs.Prelude.{◌≡◌, ℕ, ◌+◌, ◌*◌, ◌≤◌, if◌then◌else◌, is_none}
use Rattle.persist_model.specs.Records.{IsAmong}
use Rattle.lane_traits.specs.Space.{Space, IsOwn, IsDataWordOf, taken, given}
use Rattle.lane_traits.specs.declared.words.Pair.{Pair}
use Rattle.region_layout.specs.FiniteMap.{FiniteMap, lookup}
use Rattle.region_layout.specs.TreeMap.{Tree, height, IsTree}
use Rattle.region_layout.specs.Contents.{IsMapIn}
use Rattle.region_layout.specs.declared.layout.Kind.TheVariants as kind

-- the words are this map
abbrev pub Holds : Space → ℕ → FiniteMap → Type 0
Holds s root contents = IsMapIn kind.Tree s.land s.word root contents

-- the words are a map
pub record HoldsMap (s : Space) (root : ℕ) : Type 0 where
  pub contents : FiniteMap
  pub is : Holds s root contents

-- how many blocks a put of the key takes
abbrev pub needed : ℕ → FiniteMap → ℕ
needed key contents = if is_none (lookup key contents) then 1 else 0

-- no block was taken or given
pub record KeepsBlocks (s u : Space) : Type 0 where
  pub land : u.land ≡ s.land
  pub spare : u.spare ≡ s.spare

-- one block was taken, and none was given
pub record TakesOne (s u : Space) : Type 0 where
  pub block : ℕ
  pub among : IsAmong s.spare block
  pub land : u.land ≡ (taken block s).land
  pub spare : u.spare ≡ (taken block s).spare

-- one block of the structure was given, and none was taken
pub record GivesOne (s u : Space) : Type 0 where
  pub block : ℕ
  pub own : IsOwn s.land block
  pub land : u.land ≡ (given block s).land
  pub spare : u.spare ≡ s.spare

-- the words that are no data words of the structure's blocks stay
abbrev pub KeepsOthers : Space → Space → Type 0
KeepsOthers s u = (a : ℕ) → (IsDataWordOf s.land a → ⊥) → (IsDataWordOf u.land a → ⊥) → u.word a ≡ s.word a

-- at most 12 writes and 9 for each level of the tree
abbrev pub WritesFew : Space → Space → ℕ → Type 0
WritesFew s u root = (t : Tree) → IsTree s.land s.word root t → u.writes ≤ s.writes + (12 + 9 * height t)

abbrev pub entry_of : Pair → ℕ × ℕ
entry_of p = (p.key, p.value)
