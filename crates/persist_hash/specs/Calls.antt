-- What the calls of a hash read, take and give.
use Rattle.std.specs.Prelude.{◌≡◌, ℕ, ◌≤◌, List, [], ◌∷◌, length, if◌then◌else◌, ◌==◌, is_some}
use Rattle.persist_model.specs.Region.{Words}
use Rattle.persist_model.specs.Records.{IsAmong}
use Rattle.lane_traits.specs.Space.{Space, IsOwn, IsDataWordOf, taken, given}
use Rattle.region_layout.specs.FiniteMap.{FiniteMap, lookup}
use Rattle.region_layout.specs.HashMap.{chain_number, directory_of}
use Rattle.region_layout.specs.Contents.{IsMapIn}
use Rattle.region_layout.specs.declared.layout.Kind.TheVariants.{Hash}

-- the structure's words are a map with these entries
abbrev pub Holds : Space → ℕ → FiniteMap → Type 0
Holds s root contents = IsMapIn Hash s.land s.word root contents

pub record HasMap (s : Space) (root : ℕ) : Type 0 where
  pub contents : FiniteMap
  pub holds : Holds s root contents

-- how many blocks a put of the key takes: none where the key is there, else one, and one more for a directory block
abbrev pub needed : Words → ℕ → ℕ → FiniteMap → ℕ
needed w root key contents =
    if is_some (lookup key contents) then 0 else (if directory_of w root (chain_number key) == 0 then 2 else 1)

-- these blocks were taken, in order, and none was given
abbrev pub Took : List ℕ → Space → Space → Type 0
Took [] s u = (u.land ≡ s.land) × (u.spare ≡ s.spare)
Took (b ∷ bs) s u = IsAmong s.spare b × Took bs (taken b s) u

-- so many blocks were taken
pub record TakesBlocks (n : ℕ) (s u : Space) : Type 0 where
  pub blocks : List ℕ
  pub many : length blocks ≡ n
  pub took : Took blocks s u

-- no word was written, and no more blocks were taken than these
pub record IsUnwritten (n : ℕ) (s u : Space) : Type 0 where
  pub word : u.word ≡ s.word
  pub writes : u.writes ≡ s.writes
  pub takes : ℕ
  pub few : takes ≤ n
  pub took : TakesBlocks takes s u

-- one block was given, and none was taken
pub record GivesBlock (s u : Space) : Type 0 where
  pub block : ℕ
  pub own : IsOwn s.land block
  pub land : u.land ≡ (given block s).land
  pub spare : u.spare ≡ s.spare

-- the words that are no data words of the structure's blocks stay
abbrev pub KeepsOthers : Space → Space → Type 0
KeepsOthers s u = (a : ℕ) → (IsDataWordOf s.land a → ⊥) → (IsDataWordOf u.land a → ⊥) → u.word a ≡ s.word a
