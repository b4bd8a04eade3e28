-- Laws of the map in a hash.
use Rattle.std.specs.Prelude.{◌≡◌, ℕ}
use Rattle.persist_model.specs.Region.{Words}
use Rattle.lane_traits.specs.Space.{Land}
use Rattle.region_layout.specs.FiniteMap.{FiniteMap}
use Rattle.region_layout.specs.HeapBlocks.{OwnsAlike, land_of, root_of}
use Rattle.region_layout.specs.HashMap.{IsHashMap}

-- the words hold no two maps
abbrev pub HoldsOneMap : Type 0
HoldsOneMap = (land : Land) (w : Words) (root : ℕ) (m n : FiniteMap) → IsHashMap land w root m → IsHashMap land w root n → m ≡ n

-- heaps in which the structure owns the same blocks, with the same words in them, hold the same map
abbrev pub DependsOnItsBlocks : Type 0
DependsOnItsBlocks = (heap structure : ℕ) (w u : Words) (m : FiniteMap) → OwnsAlike heap structure w u
    → IsHashMap (land_of heap w structure) w (root_of heap structure) m → IsHashMap (land_of heap u structure) u (root_of heap structure) m
