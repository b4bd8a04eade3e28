-- A put in the tree is a put in its entries.
use Rattle.std.proofs.Common.{◌≡◌, ◌≢◌, ◌⊎◌, inl, inr, ℕ, ◌+◌, ◌<◌, ◌≤◌, Bool, true, false, if◌then◌else◌, ◌==◌, nat_lt, max, List, ◌++◌, ◌∷◌, Some, None, refl, sym, subst, ◌∙◌, ap, arith}
use Rattle.std.proofs.lemmas.Bool.Decides.{nat_tests, eqb_tells}
use Rattle.persist_model.specs.Region.{Words}
use Rattle.region_layout.specs.FiniteMap.{FiniteMap, lookup, with_pair, HasAscendingKeys}
use Rattle.region_layout.specs.TreeMap.{Tree, Leaf, Node, top, height, IsLaid, EachNode, IsOrdered, IsBalanced, blocks, entries}
use Rattle.persist_tree.specs.Trees.{IsIn, IsAbsent, block_of, joined, with_node, with_value}
use Rattle.persist_tree.proofs.Nodes.{by_test, EachNode-weaker}
use Rattle.persist_tree.proofs.Joining.{joined-order, joined-each, joined-in}
use Rattle.persist_tree.proofs.Maps.{put_before, put_behind, put_ascends}
use Rattle.persist_tree.proofs.Ordering.{entries_ascend, ordered_of, left_before, lookup_left, lookup_right, lookup_here}

-- ---- a new node

pub with_node-each : (P : ℕ → ℕ → ℕ → Type 0) (fresh key value : ℕ) (t : Tree) → P fresh key value → EachNode P t → EachNode P (with_node fresh key value t)
with_node-each P fresh key value Leaf here h = (here, tt, tt)
with_node-each P fresh key value (Node b k v l r) here h =
    by_test (EachNode P) (nat_lt key k) _ _
    (joined-each P b k v (with_node fresh key value l) r (h.0, with_node-each P fresh key value l here h.1, h.2))
    (joined-each P b k v l (with_node fresh key value r) (h.0, h.1, with_node-each P fresh key value r here h.2))

pub with_node-in : (fresh key value : ℕ) (t : Tree) (c : ℕ) → IsIn t c ⊎ (c ≡ fresh) → IsIn (with_node fresh key value t) c
with_node-in fresh key value Leaf c (inl h) = absurd h
with_node-in fresh key value Leaf c (inr e) = inl e
with_node-in fresh key value (Node b k v l r) c h =
    by_test (λ t. IsIn t c) (nat_lt key k) _ _
    (joined-in b k v (with_node fresh key value l) r c (elim h [
      | inl is_in ↦ (elim is_in [ inl e ↦ inl e | inr m ↦ (elim m [ inl on_left ↦ inr (inl (with_node-in fresh key value l c (inl on_left))) | inr on_right ↦ inr (inr on_right) ]) ])
      | inr e ↦ inr (inl (with_node-in fresh key value l c (inr e)))
    ]))
    (joined-in b k v l (with_node fresh key value r) c (elim h [
      | inl is_in ↦ (elim is_in [ inl e ↦ inl e | inr m ↦ (elim m [ inl on_left ↦ inr (inl on_left) | inr on_right ↦ inr (inr (with_node-in fresh key value r c (inl on_right))) ]) ])
      | inr e ↦ inr (inr (with_node-in fresh key value r c (inr e)))
    ]))

pub with_node-entries : (fresh key value : ℕ) (t : Tree) → IsOrdered t → IsAbsent key t → entries (with_node fresh key value t) ≡ with_pair key value (entries t)
with_node-entries fresh key value Leaf ordered absent = refl
with_node-entries fresh key value (Node b k v l r) ordered absent =
    by_order (with_node-entries fresh key value l ordered.2 absent.1) (with_node-entries fresh key value r ordered.3 absent.2) (nat_lt key k) refl
  where
    by_order : entries (with_node fresh key value l) ≡ with_pair key value (entries l) → entries (with_node fresh key value r) ≡ with_pair key value (entries r)
        → (x : Bool) → nat_lt key k ≡ x
        → entries (if nat_lt key k then joined b k v (with_node fresh key value l) r else joined b k v l (with_node fresh key value r))
        ≡ with_pair key value (entries l ++ (k, v) ∷ entries r)
    by_order on_left on_right true is =
        let less : key < k = grind (arith, nat_tests) in
        rw is (joined-order (λ x y z. (y, z)) b k v (with_node fresh key value l) r
        ∙ ap (λ (xs : FiniteMap). xs ++ (k, v) ∷ entries r) on_left
        ∙ sym (put_before key value (entries l) (k, v) (entries r) less))
    by_order on_left on_right false is =
        let apart = absent.0 in
        let more : k < key = grind (arith, nat_tests) in
        let off : (key == k) ≡ false = grind (arith, nat_tests) in
        let here : with_pair key value ((k, v) ∷ entries r) ≡ (k, v) ∷ with_pair key value (entries r) = rw (off, is) refl in
        rw is (joined-order (λ x y z. (y, z)) b k v l (with_node fresh key value r)
        ∙ ap (λ (xs : FiniteMap). entries l ++ (k, v) ∷ xs) on_right
        ∙ sym (put_behind key value (entries l) ((k, v) ∷ entries r) (left_before b k v l r key ordered (omega (arith, more)))
        ∙ ap (λ (xs : FiniteMap). entries l ++ xs) here))

pub with_node-ordered : (fresh key value : ℕ) (t : Tree) → IsOrdered t → IsAbsent key t → IsOrdered (with_node fresh key value t)
with_node-ordered fresh key value t ordered absent =
    ordered_of (with_node fresh key value t) (subst HasAscendingKeys (sym (with_node-entries fresh key value t ordered absent)) (put_ascends key value (entries t) (entries_ascend t ordered)))

-- ---- what a search tells

above_absent : (n m : ℕ) (t : Tree) → n ≤ m → EachNode (λ b k v. m < k) t → IsAbsent n t
above_absent n m t le h = EachNode-weaker (λ b k v. m < k) (λ b k v. n ≢ k) (λ b k v more. λ e. omega (arith, e, more, le)) t h

below_absent : (n m : ℕ) (t : Tree) → m ≤ n → EachNode (λ b k v. k < m) t → IsAbsent n t
below_absent n m t le h = EachNode-weaker (λ b k v. k < m) (λ b k v. n ≢ k) (λ b k v less. λ e. omega (arith, e, less, le)) t h

pub none_absent : (key : ℕ) (t : Tree) → EachNode (λ b k v. 0 < b) t → IsOrdered t → block_of key t ≡ 0 → IsAbsent key t
none_absent key Leaf positive ordered none = tt
none_absent key (Node b k v l r) positive ordered none =
    let here = positive.0 in
    elim (eqb_tells key k) [
      | inl e ↦ absurd (let on = e.0 in let is : b ≡ 0 = rw on at none in omega (arith, is, here))
      | inr ne ↦ by_order (none_absent key l positive.1 ordered.2) (none_absent key r positive.2 ordered.3) ne.0 ne.1 (nat_lt key k) refl
    ]
  where
    by_order : (block_of key l ≡ 0 → IsAbsent key l) → (block_of key r ≡ 0 → IsAbsent key r) → (key == k) ≡ false → key ≢ k → (x : Bool) → nat_lt key k ≡ x → IsAbsent key (Node b k v l r)
    by_order on_left on_right off apart true is =
        let less : key < k = grind (arith, nat_tests) in
        let rest : block_of key l ≡ 0 = rw (off, is) at none in
        (apart, on_left rest, above_absent key k r (omega (arith, less)) ordered.1)
    by_order on_left on_right off apart false is =
        let more : k ≤ key = grind (arith, nat_tests) in
        let rest : block_of key r ≡ 0 = rw (off, is) at none in
        (apart, below_absent key k l more ordered.0, on_right rest)

pub absent_none : (key : ℕ) (t : Tree) → IsOrdered t → IsAbsent key t → lookup key (entries t) ≡ None
absent_none key Leaf ordered absent = refl
absent_none key (Node b k v l r) ordered absent = by_order (absent_none key l ordered.2 absent.1) (absent_none key r ordered.3 absent.2) (nat_lt key k) refl
  where
    by_order : lookup key (entries l) ≡ None → lookup key (entries r) ≡ None → (x : Bool) → nat_lt key k ≡ x → lookup key (entries (Node b k v l r)) ≡ None
    by_order on_left on_right true is =
        let less : key < k = grind (arith, nat_tests) in
        lookup_left b k v l r key ordered less ∙ on_left
    by_order on_left on_right false is =
        let apart = absent.0 in
        let more : k < key = grind (arith, nat_tests) in
        lookup_right b k v l r key ordered more ∙ on_right

pub found_in : (key : ℕ) (t : Tree) → block_of key t ≢ 0 → IsIn t (block_of key t)
found_in key Leaf some = absurd (some refl)
found_in key (Node b k v l r) some = by_case (found_in key l) (found_in key r) (key == k) (nat_lt key k) some
  where
    by_case : (block_of key l ≢ 0 → IsIn l (block_of key l)) → (block_of key r ≢ 0 → IsIn r (block_of key r)) → (a x : Bool)
        → (if a then b else (if x then block_of key l else block_of key r)) ≢ 0 → IsIn (Node b k v l r) (if a then b else (if x then block_of key l else block_of key r))
    by_case on_left on_right true x some = inl refl
    by_case on_left on_right false true some = inr (inl (on_left some))
    by_case on_left on_right false false some = inr (inr (on_right some))

pub found_value : (w : Words) (key : ℕ) (t : Tree) → IsLaid w t → IsOrdered t → block_of key t ≢ 0 → lookup key (entries t) ≡ Some (w (block_of key t + 2))
found_value w key Leaf laid ordered some = absurd (some refl)
found_value w key (Node b k v l r) laid ordered some =
    elim (eqb_tells key k) [
      | inl e ↦ (let on = e.0 in rw on (lookup_here b k v l r key ordered e.1 ∙ ap Some (sym laid.0.value)))
      | inr ne ↦ by_order (found_value w key l laid.1 ordered.2) (found_value w key r laid.2 ordered.3) ne.0 ne.1 (nat_lt key k) refl
    ]
  where
    by_order : (block_of key l ≢ 0 → lookup key (entries l) ≡ Some (w (block_of key l + 2))) → (block_of key r ≢ 0 → lookup key (entries r) ≡ Some (w (block_of key r + 2)))
        → (key == k) ≡ false → key ≢ k → (x : Bool) → nat_lt key k ≡ x → lookup key (entries (Node b k v l r)) ≡ Some (w (block_of key (Node b k v l r) + 2))
    by_order on_left on_right off apart true is =
        let less : key < k = grind (arith, nat_tests) in
        let rest : block_of key l ≢ 0 = rw (off, is) at some in
        rw (off, is) (lookup_left b k v l r key ordered less ∙ on_left rest)
    by_order on_left on_right off apart false is =
        let more : k < key = grind (arith, nat_tests) in
        let rest : block_of key r ≢ 0 = rw (off, is) at some in
        rw (off, is) (lookup_right b k v l r key ordered more ∙ on_right rest)

-- ---- another value

pub with_value-top : (key value : ℕ) (t : Tree) → top (with_value key value t) ≡ top t
with_value-top key value Leaf = refl
with_value-top key value (Node b k v l r) =
    by_test (λ t. top t ≡ b) (key == k) (Node b k value l r) _ refl (by_test (λ t. top t ≡ b) (nat_lt key k) (Node b k v (with_value key value l) r) (Node b k v l (with_value key value r)) refl refl)

pub with_value-height : (key value : ℕ) (t : Tree) → height (with_value key value t) ≡ height t
with_value-height key value Leaf = refl
with_value-height key value (Node b k v l r) =
    by_test (λ t. height t ≡ 1 + max (height l) (height r)) (key == k) (Node b k value l r) _ refl
    (by_test (λ t. height t ≡ 1 + max (height l) (height r)) (nat_lt key k) (Node b k v (with_value key value l) r) (Node b k v l (with_value key value r))
    (ap (λ h. 1 + max h (height r)) (with_value-height key value l))
    (ap (λ h. 1 + max (height l) h) (with_value-height key value r)))

pub with_value-balanced : (key value : ℕ) (t : Tree) → IsBalanced t → IsBalanced (with_value key value t)
with_value-balanced key value Leaf h = h
with_value-balanced key value (Node b k v l r) h =
    let p = h.0 in let q = h.1 in
    by_test IsBalanced (key == k) (Node b k value l r) _ h
    (by_test IsBalanced (nat_lt key k) (Node b k v (with_value key value l) r) (Node b k v l (with_value key value r))
    (let e = with_value-height key value l in (omega (arith, p, e), omega (arith, q, e), with_value-balanced key value l h.2, h.3))
    (let e = with_value-height key value r in (omega (arith, p, e), omega (arith, q, e), h.2, with_value-balanced key value r h.3)))

pub with_value-each : (P : ℕ → ℕ → ℕ → Type 0) (key value : ℕ) → ((b k v : ℕ) → P b k v → P b k value) → (t : Tree) → EachNode P t → EachNode P (with_value key value t)
with_value-each P key value change Leaf h = h
with_value-each P key value change (Node b k v l r) h =
    by_test (EachNode P) (key == k) (Node b k value l r) _ (change b k v h.0, h.1, h.2)
    (by_test (EachNode P) (nat_lt key k) (Node b k v (with_value key value l) r) (Node b k v l (with_value key value r))
    (h.0, with_value-each P key value change l h.1, h.2)
    (h.0, h.1, with_value-each P key value change r h.2))

pub with_value-blocks : (key value : ℕ) (t : Tree) → blocks (with_value key value t) ≡ blocks t
with_value-blocks key value Leaf = refl
with_value-blocks key value (Node b k v l r) =
    by_test (λ t. blocks t ≡ blocks (Node b k v l r)) (key == k) (Node b k value l r) _ refl
    (by_test (λ t. blocks t ≡ blocks (Node b k v l r)) (nat_lt key k) (Node b k v (with_value key value l) r) (Node b k v l (with_value key value r))
    (ap (λ (xs : List ℕ). xs ++ b ∷ blocks r) (with_value-blocks key value l))
    (ap (λ (xs : List ℕ). blocks l ++ b ∷ xs) (with_value-blocks key value r)))

pub with_value-entries : (key value : ℕ) (t : Tree) → IsOrdered t → block_of key t ≢ 0 → entries (with_value key value t) ≡ with_pair key value (entries t)
with_value-entries key value Leaf ordered some = absurd (some refl)
with_value-entries key value (Node b k v l r) ordered some =
    elim (eqb_tells key k) [
      | inl e ↦
          (let on = e.0 in let same = e.1 in
          rw on (sym (put_behind key value (entries l) ((k, v) ∷ entries r) (left_before b k v l r key ordered (omega (arith, same)))
          ∙ (rw on (ap (λ x. entries l ++ (x, value) ∷ entries r) same)))))
      | inr ne ↦ by_order (with_value-entries key value l ordered.2) (with_value-entries key value r ordered.3) ne.0 ne.1 (nat_lt key k) refl
    ]
  where
    by_order : (block_of key l ≢ 0 → entries (with_value key value l) ≡ with_pair key value (entries l)) → (block_of key r ≢ 0 → entries (with_value key value r) ≡ with_pair key value (entries r))
        → (key == k) ≡ false → key ≢ k → (x : Bool) → nat_lt key k ≡ x → entries (with_value key value (Node b k v l r)) ≡ with_pair key value (entries (Node b k v l r))
    by_order on_left on_right off apart true is =
        let less : key < k = grind (arith, nat_tests) in
        let rest : block_of key l ≢ 0 = rw (off, is) at some in
        rw (off, is) (ap (λ (xs : FiniteMap). xs ++ (k, v) ∷ entries r) (on_left rest) ∙ sym (put_before key value (entries l) (k, v) (entries r) less))
    by_order on_left on_right off apart false is =
        let more : k < key = grind (arith, nat_tests) in
        let rest : block_of key r ≢ 0 = rw (off, is) at some in
        let here : with_pair key value ((k, v) ∷ entries r) ≡ (k, v) ∷ with_pair key value (entries r) = rw (off, is) refl in
        rw (off, is) (ap (λ (xs : FiniteMap). entries l ++ (k, v) ∷ xs) (on_right rest)
        ∙ sym (put_behind key value (entries l) ((k, v) ∷ entries r) (left_before b k v l r key ordered (omega (arith, more))) ∙ ap (λ (xs : FiniteMap). entries l ++ xs) here))

pub with_value-ordered : (key value : ℕ) (t : Tree) → IsOrdered t → block_of key t ≢ 0 → IsOrdered (with_value key value t)
with_value-ordered key value t ordered some =
    ordered_of (with_value key value t) (subst HasAscendingKeys (sym (with_value-entries key value t ordered some)) (put_ascends key value (entries t) (entries_ascend t ordered)))
