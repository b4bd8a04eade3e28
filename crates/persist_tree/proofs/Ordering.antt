-- A tree is ordered where its entries ascend: so what keeps the entries keeps the order.
use Rattle.std.proofs.Common.{◌≡◌, ℕ, ◌<◌, ◌≤◌, true, false, ◌==◌, ◌∷◌, Some, refl, sym, subst, ◌∙◌, arith}
use Rattle.std.proofs.lemmas.Bool.Decides.{nat_tests}
use Rattle.region_layout.specs.FiniteMap.{AreAfter, HasAscendingKeys, lookup}
use Rattle.region_layout.specs.TreeMap.{Tree, Leaf, Node, AreBelow, AreAbove, IsOrdered, entries}
use Rattle.persist_tree.specs.Trees.{joined}
use Rattle.persist_tree.proofs.Nodes.{below_less, above_more}
use Rattle.persist_tree.proofs.Joining.{joined-order}
use Rattle.persist_tree.proofs.Maps.{AreBefore, before_joined, after_joined, ascending_joined, before_parts, after_parts, split_at, lookup_before, lookup_behind}

pub entries_before : (m : ℕ) (t : Tree) → AreBelow m t → AreBefore m (entries t)
entries_before m Leaf h = h
entries_before m (Node b k v l r) h = before_joined m (entries l) (k, v) (entries r) (entries_before m l h.1) h.0 (entries_before m r h.2)

pub entries_after : (m : ℕ) (t : Tree) → AreAbove m t → AreAfter m (entries t)
entries_after m Leaf h = h
entries_after m (Node b k v l r) h = after_joined m (entries l) (k, v) (entries r) (entries_after m l h.1) h.0 (entries_after m r h.2)

pub entries_ascend : (t : Tree) → IsOrdered t → HasAscendingKeys (entries t)
entries_ascend Leaf h = h
entries_ascend (Node b k v l r) h = ascending_joined (entries l) (k, v) (entries r) (entries_ascend l h.2) (entries_before k l h.0) (entries_after k r h.1) (entries_ascend r h.3)

pub below_of : (m : ℕ) (t : Tree) → AreBefore m (entries t) → AreBelow m t
below_of m Leaf h = h
below_of m (Node b k v l r) h = let s = before_parts m (entries l) (k, v) (entries r) h in (s.1, below_of m l s.0, below_of m r s.2)

pub above_of : (m : ℕ) (t : Tree) → AreAfter m (entries t) → AreAbove m t
above_of m Leaf h = h
above_of m (Node b k v l r) h = let s = after_parts m (entries l) (k, v) (entries r) h in (s.1, above_of m l s.0, above_of m r s.2)

pub ordered_of : (t : Tree) → HasAscendingKeys (entries t) → IsOrdered t
ordered_of Leaf h = h
ordered_of (Node b k v l r) h =
    let s = split_at (entries l) (k, v) (entries r) h in
    (below_of k l s.less, above_of k r s.more, ordered_of l s.left, ordered_of r s.right)

pub joined-ordered : (b k v : ℕ) (l r : Tree) → IsOrdered (Node b k v l r) → IsOrdered (joined b k v l r)
joined-ordered b k v l r h = ordered_of (joined b k v l r) (subst HasAscendingKeys (sym (joined-order (λ x y z. (y, z)) b k v l r)) (entries_ascend (Node b k v l r) h))

-- ---- where a key is looked up

-- the entries from a node on are behind a smaller key
pub rest_after : (b k v : ℕ) (l r : Tree) (key : ℕ) → IsOrdered (Node b k v l r) → key < k → AreAfter key ((k, v) ∷ entries r)
rest_after b k v l r key ordered less = (less, entries_after key r (above_more r k key (omega (arith, less)) ordered.1))

pub left_before : (b k v : ℕ) (l r : Tree) (key : ℕ) → IsOrdered (Node b k v l r) → k ≤ key → AreBefore key (entries l)
left_before b k v l r key ordered more = entries_before key l (below_less l k key more ordered.0)

pub lookup_left : (b k v : ℕ) (l r : Tree) (key : ℕ) → IsOrdered (Node b k v l r) → key < k → lookup key (entries (Node b k v l r)) ≡ lookup key (entries l)
lookup_left b k v l r key ordered less = lookup_before key (entries l) ((k, v) ∷ entries r) (rest_after b k v l r key ordered less)

pub lookup_right : (b k v : ℕ) (l r : Tree) (key : ℕ) → IsOrdered (Node b k v l r) → k < key → lookup key (entries (Node b k v l r)) ≡ lookup key (entries r)
lookup_right b k v l r key ordered more =
    let off : (key == k) ≡ false = grind (arith, nat_tests) in
    lookup_behind key (entries l) ((k, v) ∷ entries r) (left_before b k v l r key ordered (omega (arith, more))) ∙ (rw off refl)

pub lookup_here : (b k v : ℕ) (l r : Tree) (key : ℕ) → IsOrdered (Node b k v l r) → key ≡ k → lookup key (entries (Node b k v l r)) ≡ Some v
lookup_here b k v l r key ordered same =
    let on : (key == k) ≡ true = grind (arith, nat_tests) in
    lookup_behind key (entries l) ((k, v) ∷ entries r) (left_before b k v l r key ordered (omega (arith, same))) ∙ (rw on refl)
