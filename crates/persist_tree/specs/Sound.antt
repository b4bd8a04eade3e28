-- Whether the words of a structure are a map.
use Rattle.std.specs.Prelude.{◌≡◌, ◌≢◌, ℕ, zero, suc, ◌+◌, ◌-◌, ◌*◌, ◌%◌, ◌<◌, ◌≤◌, List, length, Option, Some, None, if◌then◌else◌, ◌==◌}
use Rattle.persist_model.specs.Region.{Words}
use Rattle.lane_traits.specs.Device.{MAX_WORDS}
use Rattle.lane_traits.specs.Space.{Land, IsOwn}
use Rattle.region_layout.specs.TreeMap.{Tree, top, height, IsLaid, EachNode, AreOwn, AreFilled, IsOrdered, IsBalanced, blocks, IsTree}

-- the words of a region end with so many blocks
pub record IsArea (words : List ℕ) (heap blocks : ℕ) : Type 0 where
  pub size : length words ≡ heap + 16 * blocks
  pub positive : 0 < heap
  pub fits : length words ≤ MAX_WORDS

-- the link is the address of a block
pub record IsWithin (words : List ℕ) (heap link : ℕ) : Type 0 where
  pub above : heap ≤ link
  pub below : link < length words
  pub whole : (link - heap) % 16 ≡ 0

-- above the one key, where there is one, and below the other
abbrev pub IsOver : Option ℕ → ℕ → Type 0
IsOver None k = Unit {0}
IsOver (Some m) k = m < k

abbrev pub IsUnder : Option ℕ → ℕ → Type 0
IsUnder None k = Unit {0}
IsUnder (Some m) k = k < m

-- what is asked of a node's own words
pub record IsSoundNode (land : Land) (w : Words) (root : ℕ) (low high : Option ℕ) (b : ℕ) : Type 0 where
  pub own : IsOwn land b
  pub apart : b ≢ root
  pub filled : 1 ≤ w (b + 2)
  pub over : IsOver low (w (b + 1))
  pub under : IsUnder high (w (b + 1))

-- a tree in the structure's blocks, without the root block, with keys between these
pub record IsSubtree (land : Land) (w : Words) (root : ℕ) (low high : Option ℕ) (link : ℕ) (t : Tree) : Type 0 where
  pub top_is : link ≡ top t
  pub laid : IsLaid w t
  pub own : AreOwn land t
  pub ordered : IsOrdered t
  pub balanced : IsBalanced t
  pub filled : AreFilled t
  pub apart : EachNode (λ b k v. b ≢ root) t
  pub over : EachNode (λ b k v. IsOver low k) t
  pub under : EachNode (λ b k v. IsUnder high k) t

pub record HasPart (land : Land) (w : Words) (root : ℕ) (low high : Option ℕ) (link depth levels nodes : ℕ) : Type 0 where
  pub tree : Tree
  pub part : IsSubtree land w root low high link tree
  pub height_is : height tree ≡ levels
  pub nodes_are : length (blocks tree) ≡ nodes
  pub low_enough : levels ≤ depth

-- there is no such tree of at most so many levels
abbrev pub HasNoPart : Land → Words → ℕ → Option ℕ → Option ℕ → ℕ → ℕ → Type 0
HasNoPart land w root low high link depth = (t : Tree) → IsSubtree land w root low high link t → height t ≤ depth → ⊥

-- how many of the first n blocks have this owner
abbrev pub owned_count : Words → ℕ → ℕ → ℕ → ℕ
owned_count w heap owner zero = 0
owned_count w heap owner (suc n) = owned_count w heap owner n + (if w (heap + 16 * n) == owner then 1 else 0)

pub record HasTreeOf (land : Land) (w : Words) (root : ℕ) : Type 0 where
  pub tree : Tree
  pub is : IsTree land w root tree
