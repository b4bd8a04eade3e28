-- What the calls make of a tree.
use Rattle.std.specs.Prelude.{◌≡◌, ◌≢◌, ◌⊎◌, ℕ, ◌+◌, if◌then◌else◌, ◌==◌, nat_lt}
use Rattle.region_layout.specs.TreeMap.{Tree, Leaf, Node, height, EachNode}

-- it is one of the tree's blocks
abbrev pub IsIn : Tree → ℕ → Type 0
IsIn Leaf c = ⊥
IsIn (Node b k v l r) c = (c ≡ b) ⊎ (IsIn l c ⊎ IsIn r c)

-- no block is in it twice
abbrev pub IsApart : Tree → Type 0
IsApart Leaf = Unit {0}
IsApart (Node b k v l r) = (IsIn l b → ⊥) × (IsIn r b → ⊥) × ((c : ℕ) → IsIn l c → IsIn r c → ⊥) × IsApart l × IsApart r

abbrev pub IsAbsent : ℕ → Tree → Type 0
IsAbsent key t = EachNode (λ b k v. key ≢ k) t

-- the block with the key, found by a search, or 0
abbrev pub block_of : ℕ → Tree → ℕ
block_of key Leaf = 0
block_of key (Node b k v l r) = if key == k then b else (if nat_lt key k then block_of key l else block_of key r)

-- ---- a node is put right

abbrev pub left_of : Tree → Tree
left_of Leaf = Leaf
left_of (Node b k v l r) = l

abbrev pub right_of : Tree → Tree
right_of Leaf = Leaf
right_of (Node b k v l r) = r

-- the left child comes to the top, or the right one
abbrev pub turned_right : Tree → Tree
turned_right Leaf = Leaf
turned_right (Node b k v Leaf r) = Node b k v Leaf r
turned_right (Node b k v (Node c j u ll lr) r) = Node c j u ll (Node b k v lr r)

abbrev pub turned_left : Tree → Tree
turned_left Leaf = Leaf
turned_left (Node b k v l Leaf) = Node b k v l Leaf
turned_left (Node b k v l (Node c j u rl rr)) = Node c j u (Node b k v l rl) rr

-- first the child is turned the other way, then the node
abbrev pub turned_twice_right : ℕ → ℕ → ℕ → Tree → Tree → Tree
turned_twice_right b k v l r = turned_right (Node b k v (turned_left l) r)

abbrev pub turned_twice_left : ℕ → ℕ → ℕ → Tree → Tree → Tree
turned_twice_left b k v l r = turned_left (Node b k v l (turned_right r))

-- the left side, or the right one, is higher by two
abbrev pub lowered_left : ℕ → ℕ → ℕ → Tree → Tree → Tree
lowered_left b k v l r =
    if nat_lt (height (left_of l)) (height (right_of l)) then turned_twice_right b k v l r else turned_right (Node b k v l r)

abbrev pub lowered_right : ℕ → ℕ → ℕ → Tree → Tree → Tree
lowered_right b k v l r =
    if nat_lt (height (right_of r)) (height (left_of r)) then turned_twice_left b k v l r else turned_left (Node b k v l r)

-- the node with these sides, of which one may be higher by two
abbrev pub joined : ℕ → ℕ → ℕ → Tree → Tree → Tree
joined b k v l r =
    if nat_lt (height r + 1) (height l) then lowered_left b k v l r
    else (if nat_lt (height l + 1) (height r) then lowered_right b k v l r else Node b k v l r)

-- ---- puts

-- the tree with a new node, of a key that it hasn't
abbrev pub with_node : ℕ → ℕ → ℕ → Tree → Tree
with_node fresh key value Leaf = Node fresh key value Leaf Leaf
with_node fresh key value (Node b k v l r) =
    if nat_lt key k then joined b k v (with_node fresh key value l) r else joined b k v l (with_node fresh key value r)

-- the tree with another value for a key that it has
abbrev pub with_value : ℕ → ℕ → Tree → Tree
with_value key value Leaf = Leaf
with_value key value (Node b k v l r) =
    if key == k then Node b k value l r
    else (if nat_lt key k then Node b k v (with_value key value l) r else Node b k v l (with_value key value r))

-- ---- removals

-- what f gives of the leftmost node, or else d
abbrev pub first_of : {X : Type 0} → (ℕ → ℕ → ℕ → X) → X → Tree → X
first_of f d Leaf = d
first_of f d (Node b k v l r) = first_of f (f b k v) l

-- the tree without its leftmost node
abbrev pub without_first : Tree → Tree
without_first Leaf = Leaf
without_first (Node b k v Leaf r) = r
without_first (Node b k v (Node c j u ll lr) r) = joined b k v (without_first (Node c j u ll lr)) r

-- the two sides of a node that goes: the leftmost node of the right one takes its place
abbrev pub merged : Tree → Tree → Tree
merged l Leaf = l
merged Leaf (Node b k v rl rr) = Node b k v rl rr
merged (Node c j u ll lr) (Node b k v rl rr) =
    joined (first_of (λ x y z. x) b rl) (first_of (λ x y z. y) k rl) (first_of (λ x y z. z) v rl) (Node c j u ll lr) (without_first (Node b k v rl rr))

-- the tree without the node of a key
abbrev pub without_node : ℕ → Tree → Tree
without_node key Leaf = Leaf
without_node key (Node b k v l r) =
    if key == k then merged l r
    else (if nat_lt key k then joined b k v (without_node key l) r else joined b k v l (without_node key r))
