-- The nodes of a tree: what each has, which blocks they are, in order.
use Rattle.std.proofs.Common.{◌≡◌, ◌⊎◌, inl, inr, ℕ, ◌<◌, ◌≤◌, Bool, true, false, if◌then◌else◌, List, [], ◌∷◌, ◌++◌, refl, sym, subst, arith}
use Rattle.persist_model.specs.Records.{IsAmong}
use Rattle.region_layout.specs.TreeMap.{Tree, Leaf, Node, EachNode, AreBelow, AreAbove, blocks}
use Rattle.persist_tree.specs.Trees.{IsIn}

-- what holds of both sides of a choice
pub by_test : (P : Tree → Type 0) (b : Bool) (x y : Tree) → P x → P y → P (if b then x else y)
by_test P true x y px py = px
by_test P false x y px py = py

pub EachNode-weaker : (P Q : ℕ → ℕ → ℕ → Type 0) → ((b k v : ℕ) → P b k v → Q b k v) → (t : Tree) → EachNode P t → EachNode Q t
EachNode-weaker P Q weaker Leaf h = h
EachNode-weaker P Q weaker (Node b k v l r) h = (weaker b k v h.0, EachNode-weaker P Q weaker l h.1, EachNode-weaker P Q weaker r h.2)

pub EachNode-in : (P : ℕ → Type 0) (t : Tree) (c : ℕ) → EachNode (λ b k v. P b) t → IsIn t c → P c
EachNode-in P Leaf c each h = absurd h
EachNode-in P (Node b k v l r) c each (inl e) = subst P (sym e) each.0
EachNode-in P (Node b k v l r) c each (inr (inl h)) = EachNode-in P l c each.1 h
EachNode-in P (Node b k v l r) c each (inr (inr h)) = EachNode-in P r c each.2 h

pub each_in : (P : ℕ → Type 0) (t : Tree) → ((c : ℕ) → IsIn t c → P c) → EachNode (λ b k v. P b) t
each_in P Leaf h = tt
each_in P (Node b k v l r) h = (h b (inl refl), each_in P l (λ c m. h c (inr (inl m))), each_in P r (λ c m. h c (inr (inr m))))

pub below_less : (t : Tree) (m n : ℕ) → m ≤ n → AreBelow m t → AreBelow n t
below_less t m n le h = EachNode-weaker (λ b k v. k < m) (λ b k v. k < n) (λ b k v less. omega (arith, le, less)) t h

pub above_more : (t : Tree) (m n : ℕ) → n ≤ m → AreAbove m t → AreAbove n t
above_more t m n le h = EachNode-weaker (λ b k v. m < k) (λ b k v. n < k) (λ b k v more. omega (arith, le, more)) t h

-- ---- lists of blocks

pub among_left : (xs ys : List ℕ) (c : ℕ) → IsAmong xs c → IsAmong (xs ++ ys) c
among_left [] ys c h = absurd h
among_left (x ∷ xs) ys c (inl e) = inl e
among_left (x ∷ xs) ys c (inr h) = inr (among_left xs ys c h)

pub among_right : (xs ys : List ℕ) (c : ℕ) → IsAmong ys c → IsAmong (xs ++ ys) c
among_right [] ys c h = h
among_right (x ∷ xs) ys c h = inr (among_right xs ys c h)

pub among_either : (xs ys : List ℕ) (c : ℕ) → IsAmong (xs ++ ys) c → IsAmong xs c ⊎ IsAmong ys c
among_either [] ys c h = inr h
among_either (x ∷ xs) ys c (inl e) = inl (inl e)
among_either (x ∷ xs) ys c (inr h) = elim (among_either xs ys c h) [ inl a ↦ inl (inr a) | inr a ↦ inr a ]

pub in_blocks : (t : Tree) (c : ℕ) → IsIn t c → IsAmong (blocks t) c
in_blocks Leaf c h = h
in_blocks (Node b k v l r) c (inl e) = among_right (blocks l) (b ∷ blocks r) c (inl e)
in_blocks (Node b k v l r) c (inr (inl h)) = among_left (blocks l) (b ∷ blocks r) c (in_blocks l c h)
in_blocks (Node b k v l r) c (inr (inr h)) = among_right (blocks l) (b ∷ blocks r) c (inr (in_blocks r c h))

pub of_blocks : (t : Tree) (c : ℕ) → IsAmong (blocks t) c → IsIn t c
of_blocks Leaf c h = h
of_blocks (Node b k v l r) c h = elim (among_either (blocks l) (b ∷ blocks r) c h) [
  | inl a ↦ inr (inl (of_blocks l c a))
  | inr a ↦ (elim a [ inl e ↦ inl e | inr m ↦ inr (inr (of_blocks r c m)) ])
]

pub same_blocks : (t u : Tree) (c : ℕ) → blocks u ≡ blocks t → IsIn t c → IsIn u c
same_blocks t u c e h = of_blocks u c (subst (λ xs. IsAmong xs c) (sym e) (in_blocks t c h))
