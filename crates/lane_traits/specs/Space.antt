-- The words of one structure, as its map sees them.
use Rattle.std.specs.Prelude.{◌≡◌, ◌≢◌, ℕ, ◌+◌, ◌*◌, ◌<◌, ◌≤◌, Bool, List, if◌then◌else◌, ◌==◌, not, filter}
use Rattle.persist_model.specs.Region.{Words}
use Rattle.persist_model.specs.Records.{IsAmong}
use Rattle.persist_model.specs.Chain.{HasNoRepeats}
use Rattle.lane_traits.specs.Device.{MAX_WORDS}

-- what stood at the beginning: the word at each address, and the owner of each block
pub record Start : Type 0 where
  pub word : Words
  pub owner : ℕ → ℕ

-- whose the blocks are: the address of the first block, the structure's number, and the owner word of each block, now and at
-- the beginning
pub record Land : Type 0 where
  pub heap : ℕ
  pub structure : ℕ
  pub owner : ℕ → ℕ
  -- no call changes it: a draft's is what its reader shows
  pub start : Start

-- whose the blocks are, the word at each address, the blocks that can be taken, and how many writes were made
pub record Space : Type 0 where
  pub land : Land
  pub word : Words
  pub spare : List ℕ
  pub writes : ℕ

-- a block, named by the address of its word 0
pub record IsBlock (land : Land) (b : ℕ) : Type 0 where
  pub number : ℕ
  pub place : b ≡ land.heap + 16 * number
  pub positive : 0 < b
  pub fits : b + 16 ≤ MAX_WORDS

-- a block of the structure
abbrev pub IsOwn : Land → ℕ → Type 0
IsOwn land b = IsBlock land b × (land.owner b ≡ land.structure + 1)

-- the structure's root block
abbrev pub root_block : Land → ℕ
root_block land = land.heap + 16 * land.structure

-- a data word of the structure's blocks
pub record IsDataWordOf (land : Land) (a : ℕ) : Type 0 where
  pub block : ℕ
  pub index : ℕ
  pub own : IsOwn land block
  pub place : a ≡ block + index
  pub above : 0 < index
  pub below : index < 16

-- the words with this value at this address
abbrev pub put_word : ℕ → ℕ → Words → Words
put_word a v w = λ b. if b == a then v else w b

-- the space after a write
abbrev pub written : ℕ → ℕ → Space → Space
written a v s = record s { word = put_word a v s.word; writes = s.writes + 1 }

abbrev pub is_not : ℕ → ℕ → Bool
is_not b c = not (c == b)

abbrev pub with_owner : ℕ → ℕ → Land → Land
with_owner b n land = record land { owner = put_word b n land.owner }

-- the space after the block was taken, and after it was given
abbrev pub taken : ℕ → Space → Space
taken b s = record s { land = with_owner b (s.land.structure + 1) s.land; spare = filter (is_not b) s.spare }

abbrev pub given : ℕ → Space → Space
given b s = record s { land = with_owner b 0 s.land }

-- a block that can be taken, and the space after it is taken
pub record IsTaken (before : Space) (b : ℕ) (later : Space) : Type 0 where
  pub among : IsAmong before.spare b
  pub block : IsBlock before.land b
  pub space : later ≡ taken b before

-- the blocks that can be taken are blocks, not the structure's, each once
pub record AreSpare (s : Space) : Type 0 where
  pub apart : (b : ℕ) → IsAmong s.spare b → IsBlock s.land b × (s.land.owner b ≢ s.land.structure + 1)
  pub once : HasNoRepeats s.spare
