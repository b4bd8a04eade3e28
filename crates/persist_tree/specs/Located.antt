-- Where a key is, and what a call makes of the whole tree.
use Rattle.std.specs.Prelude.{◌≡◌, ℕ, ◌+◌, ◌*◌, ◌≤◌}
use Rattle.lane_traits.specs.Space.{Space}
use Rattle.region_layout.specs.TreeMap.{Tree, height, IsTree}
use Rattle.persist_tree.specs.Trees.{IsAbsent, block_of, with_node}
use Rattle.persist_tree.specs.Calls.{TakesOne, KeepsOthers}

-- the block of the key in the map here
abbrev pub Locates : Space → ℕ → ℕ → ℕ → Type 0
Locates s root key b = (t : Tree) → IsTree s.land s.word root t → b ≡ block_of key t

-- the map here hasn't the key
pub record CanInsert (s : Space) (root key : ℕ) : Type 0 where
  pub tree : Tree
  pub is : IsTree s.land s.word root tree
  pub absent : IsAbsent key tree

-- a block was taken, and the tree has the key in it
pub record IsInserted (s u : Space) (root key value : ℕ) (t : Tree) : Type 0 where
  pub taken : TakesOne s u
  pub tree : IsTree u.land u.word root (with_node taken.block key value t)
  pub others : KeepsOthers s u
  pub writes : u.writes ≤ s.writes + (12 + 9 * height t)

abbrev pub Inserts : Space → Space → ℕ → ℕ → ℕ → Type 0
Inserts s u root key value = (t : Tree) → IsTree s.land s.word root t → IsAbsent key t → IsInserted s u root key value t
