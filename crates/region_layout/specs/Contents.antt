-- The contents of a structure, by its kind.
use Rattle.std.specs.Prelude.{ℕ}
use Rattle.persist_model.specs.Region.{Words}
use Rattle.lane_traits.specs.Space.{Land}
use Rattle.region_layout.specs.declared.layout.Kind.{Kind}
use Rattle.region_layout.specs.declared.layout.Kind.TheVariants.{Cells, Tree, Hash}
use Rattle.region_layout.specs.FiniteMap.{FiniteMap}
use Rattle.region_layout.specs.HeapBlocks.{land_of, root_of}
use Rattle.region_layout.specs.CellsMap.{IsCellsMap}
use Rattle.region_layout.specs.TreeMap.{IsTreeMap}
use Rattle.region_layout.specs.HashMap.{IsHashMap}

-- the words of the structure's blocks are a map of this kind, with these entries
abbrev pub IsMapIn : Kind → Land → Words → ℕ → FiniteMap → Type 0
IsMapIn Cells land w root contents = IsCellsMap land w root contents
IsMapIn Tree land w root contents = IsTreeMap land w root contents
IsMapIn Hash land w root contents = IsHashMap land w root contents

-- the same for a structure of a heap that is given by the address of its first word and its words
abbrev pub IsMapOf : Kind → ℕ → Words → ℕ → FiniteMap → Type 0
IsMapOf kind heap w structure contents = IsMapIn kind (land_of heap w structure) w (root_of heap structure) contents

-- they are a map of this kind
pub record IsMap (kind : Kind) (heap : ℕ) (w : Words) (structure : ℕ) : Type 0 where
  pub contents : FiniteMap
  pub is : IsMapOf kind heap w structure contents
