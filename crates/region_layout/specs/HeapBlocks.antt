-- The blocks of a heap that is given by the address of its first word and its words, 0 past its end.
-- Word 0 of a block names the structure that owns it, by the structure's number plus 1.
use Rattle.std.specs.Prelude.{◌≡◌, ℕ, ◌+◌, ◌*◌, ◌<◌}
use Rattle.persist_model.specs.Region.{Words}
use Rattle.lane_traits.specs.Space.{Land, IsOwn}

-- whose the blocks are, as a structure sees it
abbrev pub land_of : ℕ → Words → ℕ → Land
land_of heap w structure = record { heap = heap; structure = structure; owner = w; start = record { word = w; owner = w } }

-- the root block of a structure
abbrev pub root_of : ℕ → ℕ → ℕ
root_of heap structure = heap + 16 * structure

-- in both heaps the structure owns the same blocks, with the same words in them
pub record OwnsAlike (heap structure : ℕ) (w u : Words) : Type 0 where
  pub owned : (b : ℕ) → IsOwn (land_of heap w structure) b → u b ≡ structure + 1
  pub owned_back : (b : ℕ) → IsOwn (land_of heap u structure) b → w b ≡ structure + 1
  pub words : (b i : ℕ) → IsOwn (land_of heap w structure) b → 0 < i → i < 16 → u (b + i) ≡ w (b + i)
