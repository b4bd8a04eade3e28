-- A removal from the tree is a removal from its entries.
use Rattle.std.proofs.Common.{◌≡◌, ◌≢◌, ◌⊎◌, inl, inr, ℕ, ◌<◌, ◌≤◌, Bool, true, false, if◌then◌else◌, ◌==◌, nat_lt, ◌++◌, ◌∷◌, refl, sym, subst, ◌∙◌, ap, arith, append-nil}
use Rattle.std.proofs.lemmas.Bool.Decides.{nat_tests, eqb_tells}
use Rattle.persist_model.specs.Records.{IsAmong}
use Rattle.region_layout.specs.FiniteMap.{FiniteMap, without_key, HasAscendingKeys}
use Rattle.region_layout.specs.TreeMap.{Tree, Leaf, Node, EachNode, IsOrdered, in_order, blocks, entries}
use Rattle.persist_tree.specs.Trees.{IsIn, IsAbsent, block_of, joined, first_of, without_first, merged, without_node}
use Rattle.persist_tree.proofs.Nodes.{by_test, EachNode-weaker, in_blocks, of_blocks, among_left, among_right}
use Rattle.persist_tree.proofs.Joining.{joined-order, joined-each, joined-in}
use Rattle.persist_tree.proofs.Maps.{without_before, without_behind, without_ascends}
use Rattle.persist_tree.proofs.Ordering.{entries_ascend, ordered_of, rest_after, left_before}

-- ---- the leftmost node

pub without_first-order : {X : Type 0} (f : ℕ → ℕ → ℕ → X) (b k v : ℕ) (l r : Tree)
    → in_order f (Node b k v l r) ≡ first_of f (f b k v) l ∷ in_order f (without_first (Node b k v l r))
without_first-order f b k v Leaf r = refl
without_first-order f b k v (Node c j u ll lr) r =
    ap (λ xs. xs ++ f b k v ∷ in_order f r) (without_first-order f c j u ll lr)
    ∙ ap (λ xs. first_of f (f c j u) ll ∷ xs) (sym (joined-order f b k v (without_first (Node c j u ll lr)) r))

pub first-each : (P : ℕ → ℕ → ℕ → Type 0) (b k v : ℕ) (l r : Tree) → EachNode P (Node b k v l r) → P (first_of (λ x y z. x) b l) (first_of (λ x y z. y) k l) (first_of (λ x y z. z) v l)
first-each P b k v Leaf r h = h.0
first-each P b k v (Node c j u ll lr) r h = first-each P c j u ll lr h.1

pub without_first-each : (P : ℕ → ℕ → ℕ → Type 0) (t : Tree) → EachNode P t → EachNode P (without_first t)
without_first-each P Leaf h = h
without_first-each P (Node b k v Leaf r) h = h.2
without_first-each P (Node b k v (Node c j u ll lr) r) h = joined-each P b k v (without_first (Node c j u ll lr)) r (h.0, without_first-each P (Node c j u ll lr) h.1, h.2)

-- ---- two sides come together

pub firsts-is : {X : Type 0} (f : ℕ → ℕ → ℕ → X) (b k v : ℕ) (l : Tree) → first_of f (f b k v) l ≡ f (first_of (λ x y z. x) b l) (first_of (λ x y z. y) k l) (first_of (λ x y z. z) v l)
firsts-is f b k v Leaf = refl
firsts-is f b k v (Node c j u ll lr) = firsts-is f c j u ll

pub merged-order : {X : Type 0} (f : ℕ → ℕ → ℕ → X) (l r : Tree) → in_order f (merged l r) ≡ in_order f l ++ in_order f r
merged-order f l Leaf = sym (append-nil (in_order f l))
merged-order f Leaf (Node b k v rl rr) = refl
merged-order f (Node c j u ll lr) (Node b k v rl rr) =
    joined-order f (first_of (λ x y z. x) b rl) (first_of (λ x y z. y) k rl) (first_of (λ x y z. z) v rl) (Node c j u ll lr) (without_first (Node b k v rl rr))
    ∙ ap (λ xs. in_order f (Node c j u ll lr) ++ xs) (sym (without_first-order f b k v rl rr ∙ ap (λ x. x ∷ in_order f (without_first (Node b k v rl rr))) (firsts-is f b k v rl)))

pub merged-each : (P : ℕ → ℕ → ℕ → Type 0) (l r : Tree) → EachNode P l → EachNode P r → EachNode P (merged l r)
merged-each P l Leaf left right = left
merged-each P Leaf (Node b k v rl rr) left right = right
merged-each P (Node c j u ll lr) (Node b k v rl rr) left right =
    joined-each P (first_of (λ x y z. x) b rl) (first_of (λ x y z. y) k rl) (first_of (λ x y z. z) v rl) (Node c j u ll lr) (without_first (Node b k v rl rr))
    (first-each P b k v rl rr right, left, without_first-each P (Node b k v rl rr) right)

pub merged-in : (l r : Tree) (c : ℕ) → IsIn l c ⊎ IsIn r c → IsIn (merged l r) c
merged-in l r c h = of_blocks (merged l r) c (subst (λ xs. IsAmong xs c) (sym (merged-order (λ x y z. x) l r)) (elim h [
  | inl a ↦ among_left (blocks l) (blocks r) c (in_blocks l c a)
  | inr a ↦ among_right (blocks l) (blocks r) c (in_blocks r c a)
]))

-- ---- the node of a key goes

pub without_node-each : (P : ℕ → ℕ → ℕ → Type 0) (key : ℕ) (t : Tree) → EachNode P t → EachNode P (without_node key t)
without_node-each P key Leaf h = h
without_node-each P key (Node b k v l r) h =
    by_test (EachNode P) (key == k) _ _ (merged-each P l r h.1 h.2)
    (by_test (EachNode P) (nat_lt key k) _ _
    (joined-each P b k v (without_node key l) r (h.0, without_node-each P key l h.1, h.2))
    (joined-each P b k v l (without_node key r) (h.0, h.1, without_node-each P key r h.2)))

pub without_node-in : (key : ℕ) (t : Tree) (c : ℕ) → IsIn t c → c ≢ block_of key t → IsIn (without_node key t) c
without_node-in key Leaf c h apart = h
without_node-in key (Node b k v l r) c h apart = by_case (without_node-in key l c) (without_node-in key r c) (key == k) (nat_lt key k) apart
  where
    by_case : (IsIn l c → c ≢ block_of key l → IsIn (without_node key l) c) → (IsIn r c → c ≢ block_of key r → IsIn (without_node key r) c) → (a x : Bool)
        → c ≢ (if a then b else (if x then block_of key l else block_of key r))
        → IsIn (if a then merged l r else (if x then joined b k v (without_node key l) r else joined b k v l (without_node key r))) c
    by_case on_left on_right true x apart = elim h [ inl e ↦ absurd (apart e) | inr m ↦ merged-in l r c m ]
    by_case on_left on_right false true apart = joined-in b k v (without_node key l) r c (elim h [
      | inl e ↦ inl e
      | inr m ↦ (elim m [ inl a ↦ inr (inl (on_left a apart)) | inr a ↦ inr (inr a) ])
    ])
    by_case on_left on_right false false apart = joined-in b k v l (without_node key r) c (elim h [
      | inl e ↦ inl e
      | inr m ↦ (elim m [ inl a ↦ inr (inl a) | inr a ↦ inr (inr (on_right a apart)) ])
    ])

pub without_node-entries : (key : ℕ) (t : Tree) → IsOrdered t → entries (without_node key t) ≡ without_key key (entries t)
without_node-entries key Leaf ordered = refl
without_node-entries key (Node b k v l r) ordered =
    elim (eqb_tells key k) [
      | inl e ↦
          (let on = e.0 in let same = e.1 in
          rw on (merged-order (λ x y z. (y, z)) l r
          ∙ sym (without_behind key (entries l) ((k, v) ∷ entries r) (left_before b k v l r key ordered (omega (arith, same))) ∙ (rw on refl))))
      | inr ne ↦ by_order (without_node-entries key l ordered.2) (without_node-entries key r ordered.3) ne.0 ne.1 (nat_lt key k) refl
    ]
  where
    by_order : entries (without_node key l) ≡ without_key key (entries l) → entries (without_node key r) ≡ without_key key (entries r)
        → (key == k) ≡ false → key ≢ k → (x : Bool) → nat_lt key k ≡ x → entries (without_node key (Node b k v l r)) ≡ without_key key (entries (Node b k v l r))
    by_order on_left on_right off apart true is =
        let less : key < k = grind (arith, nat_tests) in
        rw (off, is) (joined-order (λ x y z. (y, z)) b k v (without_node key l) r
        ∙ ap (λ (xs : FiniteMap). xs ++ (k, v) ∷ entries r) on_left
        ∙ sym (without_before key (entries l) ((k, v) ∷ entries r) (rest_after b k v l r key ordered less)))
    by_order on_left on_right off apart false is =
        let more : k < key = grind (arith, nat_tests) in
        let here : without_key key ((k, v) ∷ entries r) ≡ (k, v) ∷ without_key key (entries r) = rw off refl in
        rw (off, is) (joined-order (λ x y z. (y, z)) b k v l (without_node key r)
        ∙ ap (λ (xs : FiniteMap). entries l ++ (k, v) ∷ xs) on_right
        ∙ sym (without_behind key (entries l) ((k, v) ∷ entries r) (left_before b k v l r key ordered (omega (arith, more))) ∙ ap (λ (xs : FiniteMap). entries l ++ xs) here))

pub without_node-ordered : (key : ℕ) (t : Tree) → IsOrdered t → IsOrdered (without_node key t)
without_node-ordered key t ordered =
    ordered_of (without_node key t) (subst HasAscendingKeys (sym (without_node-entries key t ordered)) (without_ascends key (entries t) (entries_ascend t ordered)))

pub without_first-ordered : (t : Tree) → IsOrdered t → IsOrdered (without_first t)
without_first-ordered Leaf ordered = ordered
without_first-ordered (Node b k v l r) ordered = ordered_of (without_first (Node b k v l r))
    (rest_ascends (first_of (λ x y z. (y, z)) (k, v) l) (entries (without_first (Node b k v l r)))
    (subst HasAscendingKeys (without_first-order (λ x y z. (y, z)) b k v l r) (entries_ascend (Node b k v l r) ordered)))
  where
    rest_ascends : (p : ℕ × ℕ) (ps : FiniteMap) → HasAscendingKeys (p ∷ ps) → HasAscendingKeys ps
    rest_ascends p ps h = h.1

-- no node has the key then
pub without_node-absent : (key : ℕ) (t : Tree) → IsOrdered t → IsAbsent key (without_node key t)
without_node-absent key Leaf ordered = tt
without_node-absent key (Node b k v l r) ordered =
    elim (eqb_tells key k) [
      | inl e ↦
          (let on = e.0 in let same = e.1 in
          rw on (merged-each (λ c j u. key ≢ j) l r (below_absent k l (omega (arith, same)) ordered.0) (above_absent k r (omega (arith, same)) ordered.1)))
      | inr ne ↦ by_order (without_node-absent key l ordered.2) (without_node-absent key r ordered.3) ne.0 ne.1 (nat_lt key k) refl
    ]
  where
    below_absent : (m : ℕ) (t : Tree) → m ≤ key → EachNode (λ b k v. k < m) t → IsAbsent key t
    below_absent m t le h = EachNode-weaker (λ b k v. k < m) (λ b k v. key ≢ k) (λ b k v less. λ e. omega (arith, e, less, le)) t h

    above_absent : (m : ℕ) (t : Tree) → key ≤ m → EachNode (λ b k v. m < k) t → IsAbsent key t
    above_absent m t le h = EachNode-weaker (λ b k v. m < k) (λ b k v. key ≢ k) (λ b k v more. λ e. omega (arith, e, more, le)) t h

    by_order : IsAbsent key (without_node key l) → IsAbsent key (without_node key r) → (key == k) ≡ false → key ≢ k → (x : Bool) → nat_lt key k ≡ x → IsAbsent key (without_node key (Node b k v l r))
    by_order on_left on_right off apart true is =
        let less : key < k = grind (arith, nat_tests) in
        rw (off, is) (joined-each (λ c j u. key ≢ j) b k v (without_node key l) r (apart, on_left, above_absent k r (omega (arith, less)) ordered.1))
    by_order on_left on_right off apart false is =
        let more : k ≤ key = grind (arith, nat_tests) in
        rw (off, is) (joined-each (λ c j u. key ≢ j) b k v l (without_node key r) (apart, below_absent k l more ordered.0, on_right))
