-- The map in a structure of kind tree: a search tree whose nodes are blocks of the structure.
use Rattle.std.specs.Prelude.{◌≡◌, ℕ, ◌+◌, ◌<◌, ◌≤◌, List, [], ◌∷◌, ◌++◌, max}
use Rattle.persist_model.specs.Region.{Words}
use Rattle.persist_model.specs.Records.{IsAmong}
use Rattle.persist_model.specs.Chain.{HasNoRepeats}
use Rattle.lane_traits.specs.Space.{Land, IsOwn}
use Rattle.region_layout.specs.FiniteMap.{FiniteMap}
use Rattle.region_layout.specs.HeapBlocks.{land_of, root_of}

-- the block of a node, its key and value, and what hangs on the left and on the right
pub data Tree : Type 0 where
  Leaf : Tree
  Node : ℕ → ℕ → ℕ → Tree → Tree → Tree

-- the block of the topmost node, or 0
abbrev pub top : Tree → ℕ
top Leaf = 0
top (Node b k v l r) = b

abbrev pub height : Tree → ℕ
height Leaf = 0
height (Node b k v l r) = 1 + max (height l) (height r)

-- the five words of a node
pub record IsNode (w : Words) (b k v left right h : ℕ) : Type 0 where
  pub key : w (b + 1) ≡ k
  pub value : w (b + 2) ≡ v
  pub left_is : w (b + 3) ≡ left
  pub right_is : w (b + 4) ≡ right
  pub height_is : w (b + 5) ≡ h

-- the words of its blocks are the tree's
abbrev pub IsLaid : Words → Tree → Type 0
IsLaid w Leaf = Unit {0}
IsLaid w (Node b k v l r) = IsNode w b k v (top l) (top r) (1 + max (height l) (height r)) × IsLaid w l × IsLaid w r

-- each node, by its block, key and value, has P
abbrev pub EachNode : (ℕ → ℕ → ℕ → Type 0) → Tree → Type 0
EachNode P Leaf = Unit {0}
EachNode P (Node b k v l r) = P b k v × EachNode P l × EachNode P r

abbrev pub AreOwn : Land → Tree → Type 0
AreOwn land t = EachNode (λ b k v. IsOwn land b) t

abbrev pub AreBelow : ℕ → Tree → Type 0
AreBelow m t = EachNode (λ b k v. k < m) t

abbrev pub AreAbove : ℕ → Tree → Type 0
AreAbove m t = EachNode (λ b k v. m < k) t

abbrev pub AreFilled : Tree → Type 0
AreFilled t = EachNode (λ b k v. 1 ≤ v) t

-- keys on the left are smaller, and on the right greater
abbrev pub IsOrdered : Tree → Type 0
IsOrdered Leaf = Unit {0}
IsOrdered (Node b k v l r) = AreBelow k l × AreAbove k r × IsOrdered l × IsOrdered r

-- the heights of the children differ by at most 1
abbrev pub IsBalanced : Tree → Type 0
IsBalanced Leaf = Unit {0}
IsBalanced (Node b k v l r) = (height l ≤ height r + 1) × (height r ≤ height l + 1) × IsBalanced l × IsBalanced r

-- what f gives of each node, from left to right
abbrev pub in_order : {X : Type 0} → (ℕ → ℕ → ℕ → X) → Tree → List X
in_order f Leaf = []
in_order f (Node b k v l r) = in_order f l ++ f b k v ∷ in_order f r

-- the blocks, and the keys with their values
abbrev pub blocks : Tree → List ℕ
blocks t = in_order (λ b k v. b) t

abbrev pub entries : Tree → FiniteMap
entries t = in_order (λ b k v. (k, v)) t

-- The tree hangs at word 1 of the root block. The structure owns its nodes, each reached once, and no block beside them and the root.
pub record IsTree (land : Land) (w : Words) (root : ℕ) (t : Tree) : Type 0 where
  pub root_own : IsOwn land root
  pub top_is : w (root + 1) ≡ top t
  pub laid : IsLaid w t
  pub own : AreOwn land t
  pub once : HasNoRepeats (root ∷ blocks t)
  pub all : (b : ℕ) → IsOwn land b → IsAmong (root ∷ blocks t) b
  pub ordered : IsOrdered t
  pub balanced : IsBalanced t
  pub filled : AreFilled t

-- the words are a map with these entries
pub record IsTreeMap (land : Land) (w : Words) (root : ℕ) (contents : FiniteMap) : Type 0 where
  pub tree : Tree
  pub is : IsTree land w root tree
  pub entries_are : contents ≡ entries tree

-- the same for a structure of a heap
abbrev pub IsTreeMapOf : ℕ → Words → ℕ → FiniteMap → Type 0
IsTreeMapOf heap w structure contents = IsTreeMap (land_of heap w structure) w (root_of heap structure) contents
