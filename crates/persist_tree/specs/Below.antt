-- What the calls do below the root.
use Rattle.std.specs.Prelude.{◌≡◌, ◌≢◌, ◌⊎◌, ℕ, ◌+◌, ◌*◌}
use Rattle.lane_traits.specs.Space.{Space, IsOwn}
use Rattle.region_layout.specs.TreeMap.{Tree, Node, height, AreBelow, AreAbove, IsOrdered}
use Rattle.persist_tree.specs.Trees.{IsIn, IsAbsent, block_of, with_node, first_of, without_first, merged, without_node}
use Rattle.persist_tree.specs.Changes.{StandsAt, IsRebuilt}

-- the block that a search finds in the tree that stands here
abbrev pub Finds : Space → ℕ → ℕ → ℕ → Type 0
Finds s a key b = (t : Tree) → StandsAt s a t → b ≡ block_of key t

-- ---- a new node

-- the tree that stands here hasn't the key, nor the fresh block
pub record IsGrowing (s : Space) (a fresh key : ℕ) (t : Tree) : Type 0 where
  pub stands : StandsAt s a t
  pub ordered : IsOrdered t
  pub absent : IsAbsent key t
  pub own : IsOwn s.land fresh
  pub new : IsIn t fresh → ⊥

pub record CanGrow (s : Space) (a fresh key : ℕ) : Type 0 where
  pub tree : Tree
  pub is : IsGrowing s a fresh key tree

abbrev pub Grows : Space → Space → ℕ → ℕ → ℕ → ℕ → ℕ → Type 0
Grows s u a fresh key value link = (t : Tree) → IsGrowing s a fresh key t
    → IsRebuilt (λ c. IsIn t c ⊎ (c ≡ fresh)) (5 + 9 * height t) s u link (with_node fresh key value t)

-- ---- the leftmost node

pub record IsDropping (s : Space) (a : ℕ) (t : Tree) : Type 0 where
  pub stands : StandsAt s a t
  pub ordered : IsOrdered t

pub record CanDrop (s : Space) (a : ℕ) : Type 0 where
  pub k : ℕ
  pub v : ℕ
  pub l : Tree
  pub r : Tree
  pub is : IsDropping s a (Node a k v l r)

abbrev pub LeadsFirst : Space → ℕ → ℕ → Type 0
LeadsFirst s a b = (k v : ℕ) (l r : Tree) → StandsAt s a (Node a k v l r) → b ≡ first_of (λ x y z. x) a l

abbrev pub Drops : Space → Space → ℕ → ℕ → Type 0
Drops s u a link = (t : Tree) → IsDropping s a t → IsRebuilt (IsIn (without_first t)) (9 * height t) s u link (without_first t)

-- ---- two sides come together

-- the keys on the left are below those on the right, with this one between them
pub record AreMerging (s : Space) (left right key : ℕ) (l r : Tree) : Type 0 where
  pub on_left : IsDropping s left l
  pub on_right : IsDropping s right r
  pub below : AreBelow key l
  pub above : AreAbove key r

pub record CanMerge (s : Space) (left right : ℕ) : Type 0 where
  pub key : ℕ
  pub l : Tree
  pub r : Tree
  pub are : AreMerging s left right key l r

abbrev pub Merges : Space → Space → ℕ → ℕ → ℕ → Type 0
Merges s u left right link = (key : ℕ) (l r : Tree) → AreMerging s left right key l r
    → IsRebuilt (λ c. IsIn l c ⊎ IsIn r c) (9 + 9 * height r) s u link (merged l r)

-- ---- the node of a key

-- the tree that stands here has the key
pub record IsShrinking (s : Space) (a key : ℕ) (t : Tree) : Type 0 where
  pub stands : StandsAt s a t
  pub ordered : IsOrdered t
  pub present : block_of key t ≢ 0

pub record CanShrink (s : Space) (a key : ℕ) : Type 0 where
  pub tree : Tree
  pub is : IsShrinking s a key tree

abbrev pub Shrinks : Space → Space → ℕ → ℕ → ℕ → Type 0
Shrinks s u a key link = (t : Tree) → IsShrinking s a key t → IsRebuilt (IsIn t) (9 * height t) s u link (without_node key t)
