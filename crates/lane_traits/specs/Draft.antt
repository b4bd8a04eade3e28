-- What a draft shows, and what it would change.
use Rattle.std.specs.Prelude.{◌≡◌, ◌≢◌, [], ◌∷◌, ℕ, ◌+◌, ◌-◌, ◌*◌, ◌/◌, ◌<◌, ◌≤◌, Bool, false, ◌||◌, List, length, map, if◌then◌else◌, ◌==◌}
use Rattle.persist_model.specs.Region.{Words}
use Rattle.persist_model.specs.Records.{IsAmong}
use Rattle.persist_model.specs.Chain.{HasNoRepeats}
use Rattle.lane_traits.specs.Device.{MAX_WORDS}
use Rattle.lane_traits.specs.Space.{Land, Space, IsOwn, IsDataWordOf, root_block, put_word}
use Rattle.lane_traits.specs.declared.draft.WordWrite.{WordWrite}

-- b is in the list
abbrev pub is_among : List ℕ → ℕ → Bool
is_among [] b = false
is_among (x ∷ xs) b = (b == x) || is_among xs b

abbrev pub address_of : WordWrite → ℕ
address_of x = x.address

abbrev pub has_address : ℕ → WordWrite → Bool
has_address a x = x.address == a

-- the words that were written
abbrev pub addresses : List WordWrite → List ℕ
addresses log = map address_of log

-- the words after these writes, in order
abbrev pub after_writes : List WordWrite → Words → Words
after_writes [] w = w
after_writes (x ∷ log) w = after_writes log (put_word x.address x.value w)

-- a write after these, in which each word stands once: a word that is there keeps its place, and has the later value
abbrev pub noted : WordWrite → List WordWrite → List WordWrite
noted x [] = x ∷ []
noted x (y ∷ ys) = if y.address == x.address then x ∷ ys else y ∷ noted x ys

abbrev pub noted_all : List WordWrite → List WordWrite → List WordWrite
noted_all kept [] = kept
noted_all kept (x ∷ log) = noted_all (noted x kept) log

-- each written word once, with its last value, in the order in which the words were first written
abbrev pub last_writes : List WordWrite → List WordWrite
last_writes log = noted_all [] log

-- the blocks of another structure
abbrev pub of_structure : ℕ → Land → Land
of_structure structure land = record land { structure = structure }

-- What a draft shows over a reader: the blocks that it gave and those that it can take are nobody's.
abbrev pub drafted : ℕ → List WordWrite → List ℕ → List ℕ → Space → Space
drafted structure log gives spare base = record {
  land = record {
    heap = base.land.heap;
    structure = structure;
    owner = λ b. if is_among gives b || is_among spare b then 0 else base.land.owner b;
    start = record { word = base.word; owner = base.land.owner };
  };
  word = after_writes log base.word;
  spare = spare;
  writes = length log;
}

-- Blocks that were taken for a structure: each is its own and none its root, and each stands once.
pub record AreSetAside (land : Land) (spare : List ℕ) : Type 0 where
  pub own : (b : ℕ) → IsAmong spare b → IsOwn land b
  pub not_root : (b : ℕ) → IsAmong spare b → b ≢ root_block land
  pub once : HasNoRepeats spare

-- the block at or before an address
abbrev pub block_before : Land → ℕ → ℕ
block_before land a = land.heap + 16 * ((a - land.heap) / 16)

-- a block of the structure, found by its address
pub record IsOwnAt (land : Land) (b : ℕ) : Type 0 where
  pub place : b ≡ block_before land b
  pub positive : 0 < b
  pub fits : b + 16 ≤ MAX_WORDS
  pub owned : land.owner b ≡ land.structure + 1

-- a data word of the structure's blocks, found by its address
pub record IsDataAt (land : Land) (a : ℕ) : Type 0 where
  pub own : IsOwnAt land (block_before land a)
  pub above : block_before land a < a
  pub below : a < block_before land a + 16

-- the land as it was at the beginning
abbrev pub at_start : Land → Land
at_start land = record land { owner = land.start.owner }

-- What the lists of a finished draft say of what it showed.
pub record IsChange (s : Space) (writes : List WordWrite) (gives : List ℕ) : Type 0 where
  -- each written word stands once, with its last value
  pub once : HasNoRepeats (addresses writes)
  pub words : after_writes writes s.land.start.word ≡ s.word
  pub fewer : length writes ≤ s.writes
  -- it is a data word of what was the structure's at the beginning
  pub within : (a : ℕ) → IsAmong (addresses writes) a → IsDataWordOf (at_start s.land) a
  -- each block that was given was the structure's at the beginning, but not its root, and can't be taken
  pub given_once : HasNoRepeats gives
  pub given : (b : ℕ) → IsAmong gives b → IsOwn (at_start s.land) b × (IsAmong s.spare b → ⊥)
  pub not_root : (b : ℕ) → IsAmong gives b → b ≢ root_block s.land
  pub owners : s.land.owner ≡ (λ b. if is_among gives b || is_among s.spare b then 0 else s.land.start.owner b)
