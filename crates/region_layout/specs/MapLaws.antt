-- Laws of the maps of a region: those of cells, and what a fresh region holds.
use Rattle.std.specs.Prelude.{◌≡◌, ℕ, ◌<◌, List, [], length, slice_index}
use Rattle.persist_model.specs.Region.{Words}
use Rattle.persist_model.specs.Shape.{Shape, heap}
use Rattle.lane_traits.specs.Space.{Land}
use Rattle.region_layout.specs.declared.layout.Kind.{Kind}
use Rattle.region_layout.specs.Layout.{IsAllowed}
use Rattle.region_layout.specs.Fresh.{fresh_words}
use Rattle.region_layout.specs.FiniteMap.{FiniteMap}
use Rattle.region_layout.specs.HeapBlocks.{land_of, root_of, OwnsAlike}
use Rattle.region_layout.specs.CellsMap.{IsCellsMap}
use Rattle.region_layout.specs.Contents.{IsMapOf}

-- the words hold no two maps
abbrev pub CellsHoldOneMap : Type 0
CellsHoldOneMap = (land : Land) (w : Words) (root : ℕ) (m n : FiniteMap) → IsCellsMap land w root m → IsCellsMap land w root n → m ≡ n

-- heaps in which the structure owns the same blocks, with the same words in them, hold the same map
abbrev pub CellsDependOnTheirBlocks : Type 0
CellsDependOnTheirBlocks = (heap structure : ℕ) (w u : Words) (m : FiniteMap) → OwnsAlike heap structure w u
    → IsCellsMap (land_of heap w structure) w (root_of heap structure) m → IsCellsMap (land_of heap u structure) u (root_of heap structure) m

-- each structure of a fresh region is the empty map, of whatever kind it is
abbrev pub FreshHoldsEmptyMaps : Type 0
FreshHoldsEmptyMaps = (shape : Shape) (kinds : List Kind) → IsAllowed shape → length kinds ≡ shape.structures
    → (kind : Kind) (s : ℕ) → s < shape.structures → IsMapOf kind (heap shape) (slice_index (fresh_words shape kinds)) s []
