-- A node is put right: it is balanced then, and no higher than it was.
use Rattle.std.proofs.Common.{◌≡◌, inl, inr, ℕ, ◌+◌, ◌≤◌, ◌==◌, true, false, if◌then◌else◌, nat_lt, max, refl, sym, subst, ap, arith}
use Rattle.std.proofs.lemmas.Bool.Decides.{nat_tests, eqb_tells}
use Rattle.region_layout.specs.TreeMap.{Tree, Leaf, Node, height, IsBalanced}
use Rattle.persist_tree.specs.Trees.{lowered_left, lowered_right, joined, with_node, without_first, merged, without_node, first_of}
use Rattle.persist_tree.proofs.Nodes.{by_test}

-- one side alone may be the higher one
abbrev fixed_left : ℕ → ℕ → ℕ → Tree → Tree → Tree
fixed_left b k v l r = if nat_lt (height r + 1) (height l) then lowered_left b k v l r else Node b k v l r

abbrev fixed_right : ℕ → ℕ → ℕ → Tree → Tree → Tree
fixed_right b k v l r = if nat_lt (height l + 1) (height r) then lowered_right b k v l r else Node b k v l r

-- balanced, and no higher than the node was, nor lower by more than 1
pub record IsFixed (h : ℕ) (t : Tree) : Type 0 where
  pub balanced : IsBalanced t
  pub no_higher : height t ≤ h
  pub no_lower : h ≤ height t + 1

fixed_left-is : (b k v : ℕ) (l r : Tree) → IsBalanced l → IsBalanced r → height l ≤ height r + 2 → height r ≤ height l + 1
    → IsFixed (1 + max (height l) (height r)) (fixed_left b k v l r)
fixed_left-is b k v Leaf r left right most least =
    let off : nat_lt (height r + 1) 0 ≡ false = grind (arith, nat_tests) in
    rw off (record { balanced = (omega arith, least, left, right); no_higher = omega arith; no_lower = omega arith })
fixed_left-is b k v (Node c j u ll Leaf) r left right most least =
    let p = left.0 in let q = left.1 in
    elim (eqb_tells (height ll + 1) (height r + 2)) [
      | inl e ↦
          (let on : nat_lt (height r + 1) (1 + max (height ll) 0) ≡ true = grind (arith, nat_tests) in
          let off : nat_lt (height ll) 0 ≡ false = grind (arith, nat_tests) in
          let is = e.1 in
          rw (on, off) (record {
            balanced = (omega (arith, p, q, is), omega (arith, p, q, is), left.2, (omega (arith, p, q, is), omega (arith, p, q, is), left.3, right));
            no_higher = omega (arith, p, q, is);
            no_lower = omega (arith, p, q, is);
          }))
      | inr ne ↦
          (let no = ne.1 in
          let off : nat_lt (height r + 1) (1 + max (height ll) 0) ≡ false = grind (arith, nat_tests) in
          rw off (record { balanced = (omega (arith, most, no), least, left, right); no_higher = omega arith; no_lower = omega arith }))
    ]
fixed_left-is b k v (Node c j u ll (Node d i w m n)) r left right most least =
    let p = left.0 in let q = left.1 in
    let pp = left.3.0 in let qq = left.3.1 in
    elim (eqb_tells (1 + max (height ll) (1 + max (height m) (height n))) (height r + 2)) [
      | inl e ↦
          (let is = e.1 in
          let on : nat_lt (height r + 1) (1 + max (height ll) (1 + max (height m) (height n))) ≡ true = grind (arith, nat_tests) in
          elim (eqb_tells (1 + max (height m) (height n)) (height ll + 1)) [
            | inl f ↦
                (let more = f.1 in
                let up : nat_lt (height ll) (1 + max (height m) (height n)) ≡ true = grind (arith, nat_tests) in
                rw (on, up) (record {
                  balanced = (
                    omega (arith, is, more, pp, qq),
                    omega (arith, is, more, pp, qq),
                    (omega (arith, more, pp, qq), omega (arith, more, pp, qq), left.2, left.3.2),
                    (omega (arith, is, more, pp, qq), omega (arith, is, more, pp, qq), left.3.3, right),
                  );
                  no_higher = omega (arith, is, more, pp, qq);
                  no_lower = omega (arith, is, more, pp, qq);
                }))
            | inr ng ↦
                (let same = ng.1 in
                let down : nat_lt (height ll) (1 + max (height m) (height n)) ≡ false = grind (arith, nat_tests) in
                rw (on, down) (record {
                  balanced = (omega (arith, is, same, p, q), omega (arith, is, same, p, q), left.2, (omega (arith, is, same, p, q), omega (arith, is, same, p, q), left.3, right));
                  no_higher = omega (arith, is, same, p, q);
                  no_lower = omega (arith, is, same, p, q);
                }))
          ])
      | inr ne ↦
          (let apart = ne.1 in
          let off : nat_lt (height r + 1) (1 + max (height ll) (1 + max (height m) (height n))) ≡ false = grind (arith, nat_tests) in
          rw off (record { balanced = (omega (arith, most, apart), least, left, right); no_higher = omega arith; no_lower = omega arith }))
    ]

fixed_right-is : (b k v : ℕ) (l r : Tree) → IsBalanced l → IsBalanced r → height r ≤ height l + 2 → height l ≤ height r + 1
    → IsFixed (1 + max (height l) (height r)) (fixed_right b k v l r)
fixed_right-is b k v l Leaf left right most least =
    let off : nat_lt (height l + 1) 0 ≡ false = grind (arith, nat_tests) in
    rw off (record { balanced = (least, omega arith, left, right); no_higher = omega arith; no_lower = omega arith })
fixed_right-is b k v l (Node c j u Leaf rr) left right most least =
    let p = right.0 in let q = right.1 in
    elim (eqb_tells (height rr + 1) (height l + 2)) [
      | inl e ↦
          (let on : nat_lt (height l + 1) (1 + max 0 (height rr)) ≡ true = grind (arith, nat_tests) in
          let off : nat_lt (height rr) 0 ≡ false = grind (arith, nat_tests) in
          let is = e.1 in
          rw (on, off) (record {
            balanced = (omega (arith, p, q, is), omega (arith, p, q, is), (omega (arith, p, q, is), omega (arith, p, q, is), left, right.2), right.3);
            no_higher = omega (arith, p, q, is);
            no_lower = omega (arith, p, q, is);
          }))
      | inr ne ↦
          (let apart = ne.1 in
          let off : nat_lt (height l + 1) (1 + max 0 (height rr)) ≡ false = grind (arith, nat_tests) in
          rw off (record { balanced = (least, omega (arith, most, apart), left, right); no_higher = omega arith; no_lower = omega arith }))
    ]
fixed_right-is b k v l (Node c j u (Node d i w m n) rr) left right most least =
    let p = right.0 in let q = right.1 in
    let pp = right.2.0 in let qq = right.2.1 in
    elim (eqb_tells (1 + max (1 + max (height m) (height n)) (height rr)) (height l + 2)) [
      | inl e ↦
          (let is = e.1 in
          let on : nat_lt (height l + 1) (1 + max (1 + max (height m) (height n)) (height rr)) ≡ true = grind (arith, nat_tests) in
          elim (eqb_tells (1 + max (height m) (height n)) (height rr + 1)) [
            | inl f ↦
                (let more = f.1 in
                let up : nat_lt (height rr) (1 + max (height m) (height n)) ≡ true = grind (arith, nat_tests) in
                rw (on, up) (record {
                  balanced = (
                    omega (arith, is, more, pp, qq),
                    omega (arith, is, more, pp, qq),
                    (omega (arith, is, more, pp, qq), omega (arith, is, more, pp, qq), left, right.2.2),
                    (omega (arith, more, pp, qq), omega (arith, more, pp, qq), right.2.3, right.3),
                  );
                  no_higher = omega (arith, is, more, pp, qq);
                  no_lower = omega (arith, is, more, pp, qq);
                }))
            | inr ng ↦
                (let same = ng.1 in
                let down : nat_lt (height rr) (1 + max (height m) (height n)) ≡ false = grind (arith, nat_tests) in
                rw (on, down) (record {
                  balanced = (omega (arith, is, same, p, q), omega (arith, is, same, p, q), (omega (arith, is, same, p, q), omega (arith, is, same, p, q), left, right.2), right.3);
                  no_higher = omega (arith, is, same, p, q);
                  no_lower = omega (arith, is, same, p, q);
                }))
          ])
      | inr ne ↦
          (let apart = ne.1 in
          let off : nat_lt (height l + 1) (1 + max (1 + max (height m) (height n)) (height rr)) ≡ false = grind (arith, nat_tests) in
          rw off (record { balanced = (least, omega (arith, most, apart), left, right); no_higher = omega arith; no_lower = omega arith }))
    ]

pub joined-light : (b k v : ℕ) (l r : Tree) → height l ≤ height r + 1 → height r ≤ height l + 1 → joined b k v l r ≡ Node b k v l r
joined-light b k v l r most least =
    let off : nat_lt (height r + 1) (height l) ≡ false = grind (arith, nat_tests) in
    let even : nat_lt (height l + 1) (height r) ≡ false = grind (arith, nat_tests) in
    rw (off, even) refl

joined-left : (b k v : ℕ) (l r : Tree) → height l ≡ height r + 2 → joined b k v l r ≡ fixed_left b k v l r
joined-left b k v l r higher = let on : nat_lt (height r + 1) (height l) ≡ true = grind (arith, nat_tests) in rw on refl

joined-right : (b k v : ℕ) (l r : Tree) → height l ≤ height r + 1 → joined b k v l r ≡ fixed_right b k v l r
joined-right b k v l r most = let off : nat_lt (height r + 1) (height l) ≡ false = grind (arith, nat_tests) in rw off refl

pub joined-is : (b k v : ℕ) (l r : Tree) → IsBalanced l → IsBalanced r → height l ≤ height r + 2 → height r ≤ height l + 2
    → IsFixed (1 + max (height l) (height r)) (joined b k v l r)
joined-is b k v l r left right most least =
    elim (eqb_tells (height l) (height r + 2)) [
      | inl e ↦
          (let higher = e.1 in
          subst (IsFixed (1 + max (height l) (height r))) (sym (joined-left b k v l r higher))
          (fixed_left-is b k v l r left right most (omega (arith, higher))))
      | inr ne ↦
          (let apart = ne.1 in
          let low : height l ≤ height r + 1 = omega (arith, apart, most) in
          subst (IsFixed (1 + max (height l) (height r))) (sym (joined-right b k v l r low)) (fixed_right-is b k v l r left right least low))
    ]

-- ---- a side grows by 1 at most

pub record IsGrown (h : ℕ) (t : Tree) : Type 0 where
  pub balanced : IsBalanced t
  pub no_lower : h ≤ height t
  pub no_higher : height t ≤ h + 1

grown_left : (b k v : ℕ) (l r x : Tree) → height l ≤ height r + 1 → height r ≤ height l + 1 → IsBalanced r → IsGrown (height l) x → IsGrown (1 + max (height l) (height r)) (joined b k v x r)
grown_left b k v l r x p q right grown =
    let low = grown.no_lower in let high = grown.no_higher in
    let fixed = joined-is b k v x r grown.balanced right (omega (arith, p, high)) (omega (arith, q, low)) in
    let a = fixed.no_higher in let z = fixed.no_lower in
    elim (eqb_tells (height x) (height r + 2)) [
      | inl e ↦ (let is = e.1 in record { balanced = fixed.balanced; no_lower = omega (arith, is, low, high, p, z); no_higher = omega (arith, a, high) })
      | inr ne ↦
          (let apart = ne.1 in
          let light : height x ≤ height r + 1 = omega (arith, apart, high, p) in
          let same : height (joined b k v x r) ≡ 1 + max (height x) (height r) = ap height (joined-light b k v x r light (omega (arith, q, low))) in
          record { balanced = fixed.balanced; no_lower = omega (arith, same, low); no_higher = omega (arith, a, high) })
    ]

grown_right : (b k v : ℕ) (l r x : Tree) → height l ≤ height r + 1 → height r ≤ height l + 1 → IsBalanced l → IsGrown (height r) x → IsGrown (1 + max (height l) (height r)) (joined b k v l x)
grown_right b k v l r x p q left grown =
    let low = grown.no_lower in let high = grown.no_higher in
    let fixed = joined-is b k v l x left grown.balanced (omega (arith, p, low)) (omega (arith, q, high)) in
    let a = fixed.no_higher in let z = fixed.no_lower in
    elim (eqb_tells (height x) (height l + 2)) [
      | inl e ↦ (let is = e.1 in record { balanced = fixed.balanced; no_lower = omega (arith, is, low, high, q, z); no_higher = omega (arith, a, high) })
      | inr ne ↦
          (let apart = ne.1 in
          let light : height x ≤ height l + 1 = omega (arith, apart, high, q) in
          let same : height (joined b k v l x) ≡ 1 + max (height l) (height x) = ap height (joined-light b k v l x (omega (arith, p, low)) light) in
          record { balanced = fixed.balanced; no_lower = omega (arith, same, low); no_higher = omega (arith, a, high) })
    ]

pub with_node-grown : (fresh key value : ℕ) (t : Tree) → IsBalanced t → IsGrown (height t) (with_node fresh key value t)
with_node-grown fresh key value Leaf balanced = record { balanced = (omega arith, omega arith, tt, tt); no_lower = omega arith; no_higher = omega arith }
with_node-grown fresh key value (Node b k v l r) balanced =
    by_test (IsGrown (1 + max (height l) (height r))) (nat_lt key k) _ _
    (grown_left b k v l r (with_node fresh key value l) balanced.0 balanced.1 balanced.3 (with_node-grown fresh key value l balanced.2))
    (grown_right b k v l r (with_node fresh key value r) balanced.0 balanced.1 balanced.2 (with_node-grown fresh key value r balanced.3))

-- ---- a side shrinks by 1 at most

pub record IsShrunk (h : ℕ) (t : Tree) : Type 0 where
  pub balanced : IsBalanced t
  pub no_higher : height t ≤ h
  pub no_lower : h ≤ height t + 1

shrunk_left : (b k v : ℕ) (l r x : Tree) → height l ≤ height r + 1 → height r ≤ height l + 1 → IsBalanced r → IsShrunk (height l) x → IsShrunk (1 + max (height l) (height r)) (joined b k v x r)
shrunk_left b k v l r x p q right shrunk =
    let low = shrunk.no_lower in let high = shrunk.no_higher in
    let fixed = joined-is b k v x r shrunk.balanced right (omega (arith, p, high)) (omega (arith, q, low)) in
    let a = fixed.no_higher in let z = fixed.no_lower in
    elim (eqb_tells (height r) (height x + 2)) [
      | inl e ↦ (let is = e.1 in record { balanced = fixed.balanced; no_higher = omega (arith, a, high); no_lower = omega (arith, is, low, high, q, z) })
      | inr ne ↦
          (let apart = ne.1 in
          let light : height r ≤ height x + 1 = omega (arith, apart, q, low) in
          let same : height (joined b k v x r) ≡ 1 + max (height x) (height r) = ap height (joined-light b k v x r (omega (arith, p, high)) light) in
          record { balanced = fixed.balanced; no_higher = omega (arith, a, high); no_lower = omega (arith, same, low) })
    ]

shrunk_right : (b k v : ℕ) (l r x : Tree) → height l ≤ height r + 1 → height r ≤ height l + 1 → IsBalanced l → IsShrunk (height r) x → IsShrunk (1 + max (height l) (height r)) (joined b k v l x)
shrunk_right b k v l r x p q left shrunk =
    let low = shrunk.no_lower in let high = shrunk.no_higher in
    let fixed = joined-is b k v l x left shrunk.balanced (omega (arith, p, low)) (omega (arith, q, high)) in
    let a = fixed.no_higher in let z = fixed.no_lower in
    elim (eqb_tells (height l) (height x + 2)) [
      | inl e ↦ (let is = e.1 in record { balanced = fixed.balanced; no_higher = omega (arith, a, high); no_lower = omega (arith, is, low, high, p, z) })
      | inr ne ↦
          (let apart = ne.1 in
          let light : height l ≤ height x + 1 = omega (arith, apart, p, low) in
          let same : height (joined b k v l x) ≡ 1 + max (height l) (height x) = ap height (joined-light b k v l x light (omega (arith, q, high))) in
          record { balanced = fixed.balanced; no_higher = omega (arith, a, high); no_lower = omega (arith, same, low) })
    ]

pub without_first-shrunk : (t : Tree) → IsBalanced t → IsShrunk (height t) (without_first t)
without_first-shrunk Leaf balanced = record { balanced = tt; no_higher = omega arith; no_lower = omega arith }
without_first-shrunk (Node b k v Leaf r) balanced = record { balanced = balanced.3; no_higher = omega arith; no_lower = omega arith }
without_first-shrunk (Node b k v (Node c j u ll lr) r) balanced =
    shrunk_left b k v (Node c j u ll lr) r (without_first (Node c j u ll lr)) balanced.0 balanced.1 balanced.3 (without_first-shrunk (Node c j u ll lr) balanced.2)

pub merged-shrunk : (l r : Tree) → height l ≤ height r + 1 → height r ≤ height l + 1 → IsBalanced l → IsBalanced r → IsShrunk (1 + max (height l) (height r)) (merged l r)
merged-shrunk l Leaf p q left right = record { balanced = left; no_higher = omega arith; no_lower = omega arith }
merged-shrunk Leaf (Node b k v rl rr) p q left right = record { balanced = right; no_higher = omega arith; no_lower = omega arith }
merged-shrunk (Node c j u ll lr) (Node b k v rl rr) p q left right =
    shrunk_right (first_of (λ x y z. x) b rl) (first_of (λ x y z. y) k rl) (first_of (λ x y z. z) v rl) (Node c j u ll lr) (Node b k v rl rr) (without_first (Node b k v rl rr)) p q left
    (without_first-shrunk (Node b k v rl rr) right)

pub without_node-shrunk : (key : ℕ) (t : Tree) → IsBalanced t → IsShrunk (height t) (without_node key t)
without_node-shrunk key Leaf balanced = record { balanced = tt; no_higher = omega arith; no_lower = omega arith }
without_node-shrunk key (Node b k v l r) balanced =
    by_test (IsShrunk (1 + max (height l) (height r))) (key == k) _ _
    (merged-shrunk l r balanced.0 balanced.1 balanced.2 balanced.3)
    (by_test (IsShrunk (1 + max (height l) (height r))) (nat_lt key k) _ _
    (shrunk_left b k v l r (without_node key l) balanced.0 balanced.1 balanced.3 (without_node-shrunk key l balanced.2))
    (shrunk_right b k v l r (without_node key r) balanced.0 balanced.1 balanced.2 (without_node-shrunk key r balanced.3)))
