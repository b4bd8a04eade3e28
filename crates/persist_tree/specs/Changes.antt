-- What a call does to the words.
use Rattle.std.specs.Prelude.{◌≡◌, ◌≢◌, ℕ, ◌+◌, ◌<◌, ◌≤◌, if◌then◌else◌, ◌==◌}
use Rattle.persist_model.specs.Region.{Words}
use Rattle.lane_traits.specs.Space.{Space, IsOwn}
use Rattle.region_layout.specs.TreeMap.{Tree, Node, top, IsLaid, AreOwn}
use Rattle.persist_tree.specs.Trees.{IsIn, IsApart}

-- the address is no data word of these blocks
abbrev pub IsOutside : (ℕ → Type 0) → ℕ → Type 0
IsOutside A a = (b i : ℕ) → A b → 0 < i → i < 16 → a ≢ b + i

-- From one space to the other only data words of these blocks were written, by at most n writes. No block was taken or given.
pub record Changes (A : ℕ → Type 0) (n : ℕ) (s u : Space) : Type 0 where
  pub land : u.land ≡ s.land
  pub spare : u.spare ≡ s.spare
  pub elsewhere : (a : ℕ) → IsOutside A a → u.word a ≡ s.word a
  pub writes : u.writes ≤ s.writes + n

-- the tree stands at this address, in blocks of the structure
pub record StandsAt (s : Space) (a : ℕ) (t : Tree) : Type 0 where
  pub top_is : a ≡ top t
  pub laid : IsLaid s.word t
  pub own : AreOwn s.land t

-- after the changes this tree stands there
pub record IsRebuilt (A : ℕ → Type 0) (n : ℕ) (s u : Space) (a : ℕ) (t : Tree) : Type 0 where
  pub changes : Changes A n s u
  pub stands : StandsAt u a t

-- a block with a key and a value, and the trees that are to be its sides
pub record AreParts (s : Space) (b left right k v : ℕ) (l r : Tree) : Type 0 where
  pub own : IsOwn s.land b
  pub key : s.word (b + 1) ≡ k
  pub value : s.word (b + 2) ≡ v
  pub on_left : StandsAt s left l
  pub on_right : StandsAt s right r
  pub apart : IsApart (Node b k v l r)

pub record HasParts (s : Space) (b left right : ℕ) : Type 0 where
  pub k : ℕ
  pub v : ℕ
  pub l : Tree
  pub r : Tree
  pub are : AreParts s b left right k v l r

-- the block can be turned about this side, which is a node
pub record CanTurn (s : Space) (b left right side : ℕ) : Type 0 where
  pub parts : HasParts s b left right
  pub child : 0 < side

-- a tree stands at this address
pub record HasTree (s : Space) (a : ℕ) : Type 0 where
  pub tree : Tree
  pub stands : StandsAt s a tree

pub record HasNode (s : Space) (b : ℕ) : Type 0 where
  pub k : ℕ
  pub v : ℕ
  pub l : Tree
  pub r : Tree
  pub stands : StandsAt s b (Node b k v l r)

-- the block is the node of these trees then
abbrev pub Hangs : Space → Space → ℕ → ℕ → ℕ → Type 0
Hangs s u b left right = (k v : ℕ) (l r : Tree) → AreParts s b left right k v l r → IsRebuilt (λ c. c ≡ b) 3 s u b (Node b k v l r)

-- so it is, turned as built says, in at most n writes to its blocks
abbrev pub Builds : (ℕ → ℕ → ℕ → Tree → Tree → Tree) → ℕ → Space → Space → ℕ → ℕ → ℕ → ℕ → Type 0
Builds built n s u b left right link = (k v : ℕ) (l r : Tree) → AreParts s b left right k v l r
    → IsRebuilt (IsIn (Node b k v l r)) n s u link (built b k v l r)

-- so a turn does, in the writes that two turns take
abbrev pub Turns : (ℕ → ℕ → ℕ → Tree → Tree → Tree) → Space → Space → ℕ → ℕ → ℕ → ℕ → Type 0
Turns built s u b left right link = Builds built 9 s u b left right link

-- the height that is stored where a link leads
abbrev pub stored_height : Words → ℕ → ℕ
stored_height w a = if a == 0 then 0 else w (a + 5)
