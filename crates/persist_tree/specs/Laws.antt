-- Laws of the map in a tree.
use Rattle.std.specs.Prelude.{◌≡◌, ℕ, zero, suc, ◌+◌, ◌/◌, ◌^◌, ◌≤◌, length, refl}
use Rattle.persist_model.specs.Region.{Words}
use Rattle.lane_traits.specs.Space.{Land}
use Rattle.region_layout.specs.FiniteMap.{FiniteMap}
use Rattle.region_layout.specs.HeapBlocks.{OwnsAlike}
use Rattle.region_layout.specs.TreeMap.{Tree, height, IsBalanced, entries, IsTreeMap, IsTreeMapOf}

-- the words hold no two maps
abbrev pub HoldsOneMap : Type 0
HoldsOneMap = (land : Land) (w : Words) (root : ℕ) (m n : FiniteMap) → IsTreeMap land w root m → IsTreeMap land w root n → m ≡ n

-- heaps in which the structure owns the same blocks, with the same words in them, hold the same map
abbrev pub DependsOnItsBlocks : Type 0
DependsOnItsBlocks = (heap structure : ℕ) (w u : Words) (m : FiniteMap) → OwnsAlike heap structure w u → IsTreeMapOf heap w structure m → IsTreeMapOf heap u structure m

-- the fewest nodes that a balanced tree of this height has
abbrev pub least_nodes : ℕ → ℕ
least_nodes zero = 0
least_nodes (suc zero) = 1
least_nodes (suc (suc h)) = 1 + least_nodes (suc h) + least_nodes h

least_nodes-5 : least_nodes 5 ≡ 12
least_nodes-5 = refl

-- the height is logarithmic in the number of keys
pub record IsLow (t : Tree) : Type 0 where
  pub least : least_nodes (height t) ≤ length (entries t)
  pub logarithmic : 2 ^ (height t / 2) ≤ length (entries t) + 1

abbrev pub HeightsAreLow : Type 0
HeightsAreLow = (t : Tree) → IsBalanced t → IsLow t
