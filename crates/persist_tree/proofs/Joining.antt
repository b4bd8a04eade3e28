-- A node is put right: its nodes stay, in order.
use Rattle.std.proofs.Common.{◌≡◌, ℕ, ◌+◌, nat_lt, ◌++◌, ◌∷◌, refl, sym, ◌∙◌, ap, append_assoc}
use Rattle.region_layout.specs.TreeMap.{Tree, Leaf, Node, height, EachNode, in_order}
use Rattle.persist_tree.specs.Trees.{IsIn, left_of, right_of, turned_left, turned_right, lowered_left, lowered_right, joined}
use Rattle.persist_tree.proofs.Nodes.{by_test, same_blocks}

pub turned_right-order : {X : Type 0} (f : ℕ → ℕ → ℕ → X) (t : Tree) → in_order f (turned_right t) ≡ in_order f t
turned_right-order f Leaf = refl
turned_right-order f (Node b k v Leaf r) = refl
turned_right-order f (Node b k v (Node c j u ll lr) r) = sym (append_assoc (in_order f ll) _ _)

pub turned_left-order : {X : Type 0} (f : ℕ → ℕ → ℕ → X) (t : Tree) → in_order f (turned_left t) ≡ in_order f t
turned_left-order f Leaf = refl
turned_left-order f (Node b k v l Leaf) = refl
turned_left-order f (Node b k v l (Node c j u rl rr)) = append_assoc (in_order f l) _ _

pub lowered_left-order : {X : Type 0} (f : ℕ → ℕ → ℕ → X) (b k v : ℕ) (l r : Tree) → in_order f (lowered_left b k v l r) ≡ in_order f (Node b k v l r)
lowered_left-order f b k v l r =
    by_test (λ t. in_order f t ≡ in_order f (Node b k v l r)) (nat_lt (height (left_of l)) (height (right_of l))) _ _
    (turned_right-order f (Node b k v (turned_left l) r) ∙ ap (λ xs. xs ++ f b k v ∷ in_order f r) (turned_left-order f l))
    (turned_right-order f (Node b k v l r))

pub lowered_right-order : {X : Type 0} (f : ℕ → ℕ → ℕ → X) (b k v : ℕ) (l r : Tree) → in_order f (lowered_right b k v l r) ≡ in_order f (Node b k v l r)
lowered_right-order f b k v l r =
    by_test (λ t. in_order f t ≡ in_order f (Node b k v l r)) (nat_lt (height (right_of r)) (height (left_of r))) _ _
    (turned_left-order f (Node b k v l (turned_right r)) ∙ ap (λ xs. in_order f l ++ f b k v ∷ xs) (turned_right-order f r))
    (turned_left-order f (Node b k v l r))

pub joined-order : {X : Type 0} (f : ℕ → ℕ → ℕ → X) (b k v : ℕ) (l r : Tree) → in_order f (joined b k v l r) ≡ in_order f (Node b k v l r)
joined-order f b k v l r =
    by_test (λ t. in_order f t ≡ in_order f (Node b k v l r)) (nat_lt (height r + 1) (height l)) _ _
    (lowered_left-order f b k v l r)
    (by_test (λ t. in_order f t ≡ in_order f (Node b k v l r)) (nat_lt (height l + 1) (height r)) _ _ (lowered_right-order f b k v l r) refl)

turned_right-each : (P : ℕ → ℕ → ℕ → Type 0) (t : Tree) → EachNode P t → EachNode P (turned_right t)
turned_right-each P Leaf h = h
turned_right-each P (Node b k v Leaf r) h = h
turned_right-each P (Node b k v (Node c j u ll lr) r) h = (h.1.0, h.1.1, (h.0, h.1.2, h.2))

turned_left-each : (P : ℕ → ℕ → ℕ → Type 0) (t : Tree) → EachNode P t → EachNode P (turned_left t)
turned_left-each P Leaf h = h
turned_left-each P (Node b k v l Leaf) h = h
turned_left-each P (Node b k v l (Node c j u rl rr)) h = (h.2.0, (h.0, h.1, h.2.1), h.2.2)

pub joined-each : (P : ℕ → ℕ → ℕ → Type 0) (b k v : ℕ) (l r : Tree) → EachNode P (Node b k v l r) → EachNode P (joined b k v l r)
joined-each P b k v l r h =
    by_test (EachNode P) (nat_lt (height r + 1) (height l)) _ _
    (by_test (EachNode P) (nat_lt (height (left_of l)) (height (right_of l))) _ _
    (turned_right-each P (Node b k v (turned_left l) r) (h.0, turned_left-each P l h.1, h.2))
    (turned_right-each P (Node b k v l r) h))
    (by_test (EachNode P) (nat_lt (height l + 1) (height r)) _ _
    (by_test (EachNode P) (nat_lt (height (right_of r)) (height (left_of r))) _ _
    (turned_left-each P (Node b k v l (turned_right r)) (h.0, h.1, turned_right-each P r h.2))
    (turned_left-each P (Node b k v l r) h))
    h)

pub joined-in : (b k v : ℕ) (l r : Tree) (c : ℕ) → IsIn (Node b k v l r) c → IsIn (joined b k v l r) c
joined-in b k v l r c h = same_blocks (Node b k v l r) (joined b k v l r) c (joined-order (λ x y z. x) b k v l r) h
