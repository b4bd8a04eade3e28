-- How many nodes a tree has: a heap has few blocks, and a high tree many nodes.
use Rattle.std.proofs.Common.{◌≡◌, ◌≢◌, ◌⊎◌, inl, inr, ℕ, zero, suc, ◌+◌, ◌*◌, ◌<◌, ◌≤◌, false, ◌==◌, List, [], ◌∷◌, ◌++◌, length, refl, ap, sym, ◌∙◌, arith, subst, length-append}
use Rattle.std.proofs.lemmas.Bool.Decides.{nat_tests, eqb_tells}
use Rattle.persist_model.specs.Records.{IsAmong}
use Rattle.persist_model.specs.Chain.{Each, IsAbsent, HasNoRepeats, without}
use Rattle.lane_traits.specs.Space.{Land, IsOwn}
use Rattle.region_layout.specs.TreeMap.{Tree, Leaf, Node, height, EachNode, AreOwn, blocks}
use Rattle.persist_tree.specs.Trees.{IsApart}
use Rattle.persist_tree.proofs.Nodes.{in_blocks, of_blocks, among_left, among_right}

-- ---- lists without repeats

pub without-absent : (b : ℕ) (xs : List ℕ) → IsAbsent b xs → without b xs ≡ xs
without-absent b [] h = refl
without-absent b (x ∷ xs) h =
    let apart = h.0 in
    let off : (x == b) ≡ false = (let ne : x ≢ b = λ e. apart (sym e) in grind (arith, nat_tests)) in
    rw off (ap (λ ys. x ∷ ys) (without-absent b xs h.1))

pub length-without : (b : ℕ) (xs : List ℕ) → HasNoRepeats xs → length xs ≤ suc (length (without b xs))
length-without b [] h = omega arith
length-without b (x ∷ xs) h = elim (eqb_tells x b) [
  | inl e ↦ let on = e.0 in rw on (let same : IsAbsent b xs = subst (λ z. IsAbsent z xs) e.1 h.0 in let q = ap length (without-absent b xs same) in omega arith)
  | inr e ↦ let off = e.0 in rw off (let q = length-without b xs h.1 in omega arith)
]

pub Each-without : (P Q : ℕ → Type 0) (b : ℕ) (xs : List ℕ) → ((x : ℕ) → x ≢ b → P x → Q x) → Each P xs → Each Q (without b xs)
Each-without P Q b [] f h = tt
Each-without P Q b (x ∷ xs) f h = elim (eqb_tells x b) [
  | inl e ↦ let on = e.0 in rw on (Each-without P Q b xs f h.1)
  | inr e ↦ let off = e.0 in rw off (f x e.1 h.0, Each-without P Q b xs f h.1)
]

pub HasNoRepeats-without : (b : ℕ) (xs : List ℕ) → HasNoRepeats xs → HasNoRepeats (without b xs)
HasNoRepeats-without b [] h = tt
HasNoRepeats-without b (x ∷ xs) h = elim (eqb_tells x b) [
  | inl e ↦ let on = e.0 in rw on (HasNoRepeats-without b xs h.1)
  | inr e ↦ let off = e.0 in rw off (Each-without (λ z. x ≢ z) (λ z. x ≢ z) b xs (λ z ne k. k) h.0, HasNoRepeats-without b xs h.1)
]

abbrev pub IsPlaceBelow : ℕ → ℕ → ℕ → Type 0
IsPlaceBelow first n b = (j : ℕ) × (j < n) × (b ≡ first + 16 * j)

pigeonhole : (first n : ℕ) (xs : List ℕ) → HasNoRepeats xs → Each (IsPlaceBelow first n) xs → length xs ≤ n
pigeonhole first zero [] once h = omega arith
pigeonhole first zero (x ∷ xs) once h = let lt = h.0.1 in absurd (omega arith)
pigeonhole first (suc n) xs once h =
    let fewer = pigeonhole first n (without (first + 16 * n) xs) (HasNoRepeats-without (first + 16 * n) xs once)
    (Each-without (IsPlaceBelow first (suc n)) (IsPlaceBelow first n) (first + 16 * n) xs (λ x ne p. (p.0, below p.0 x ne p.1 p.2, p.2)) h) in
    let one = length-without (first + 16 * n) xs once in omega arith
  where
    below : (j x : ℕ) → x ≢ first + 16 * n → j < suc n → x ≡ first + 16 * j → j < n
    below j x ne lt e = elim (eqb_tells j n) [ inl q ↦ absurd (ne (e ∙ ap (λ m. first + 16 * m) q.1)) | inr q ↦ let d = q.1 in omega arith ]

pub absent_of : (b : ℕ) (xs : List ℕ) → (IsAmong xs b → ⊥) → IsAbsent b xs
absent_of b [] h = tt
absent_of b (x ∷ xs) h = (λ e. h (inl e), absent_of b xs (λ m. h (inr m)))

pub not_among : (b : ℕ) (xs : List ℕ) → IsAbsent b xs → IsAmong xs b → ⊥
not_among b [] h m = m
not_among b (x ∷ xs) h (inl e) = h.0 e
not_among b (x ∷ xs) h (inr m) = not_among b xs h.1 m

absent_joined : (b : ℕ) (xs : List ℕ) (y : ℕ) (ys : List ℕ) → IsAbsent b xs → b ≢ y → IsAbsent b ys → IsAbsent b (xs ++ y ∷ ys)
absent_joined b [] y ys left here right = (here, right)
absent_joined b (x ∷ xs) y ys left here right = (left.0, absent_joined b xs y ys left.1 here right)

once_joined : (xs : List ℕ) (y : ℕ) (ys : List ℕ) → HasNoRepeats xs → (IsAmong xs y → ⊥) → IsAbsent y ys → HasNoRepeats ys → ((c : ℕ) → IsAmong xs c → IsAmong ys c → ⊥)
    → HasNoRepeats (xs ++ y ∷ ys)
once_joined [] y ys left out absent right apart = (absent, right)
once_joined (x ∷ xs) y ys left out absent right apart = (
  absent_joined x xs y ys left.0 (λ e. out (inl (sym e))) (absent_of x ys (λ m. apart x (inl refl) m)),
  once_joined xs y ys left.1 (λ m. out (inr m)) absent right (λ c m k. apart c (inr m) k),
)

-- ---- the blocks of a tree

pub blocks-once : (t : Tree) → IsApart t → HasNoRepeats (blocks t)
blocks-once Leaf h = tt
blocks-once (Node b k v l r) h = once_joined (blocks l) b (blocks r) (blocks-once l h.3) (λ m. h.0 (of_blocks l b m)) (absent_of b (blocks r) (λ m. h.1 (of_blocks r b m))) (blocks-once r h.4)
    (λ c m n. h.2 c (of_blocks l c m) (of_blocks r c n))

-- the parts of a list without repeats
pub record IsSplitOnce (xs : List ℕ) (y : ℕ) (ys : List ℕ) : Type 0 where
  pub left : HasNoRepeats xs
  pub right : HasNoRepeats ys
  pub out_left : IsAmong xs y → ⊥
  pub out_right : IsAmong ys y → ⊥
  pub apart : (c : ℕ) → IsAmong xs c → IsAmong ys c → ⊥

among_at : (xs : List ℕ) (y : ℕ) (ys : List ℕ) (c : ℕ) → (c ≡ y) ⊎ IsAmong ys c → IsAmong (xs ++ y ∷ ys) c
among_at xs y ys c h = among_right xs (y ∷ ys) c h

once_split : (xs : List ℕ) (y : ℕ) (ys : List ℕ) → HasNoRepeats (xs ++ y ∷ ys) → IsSplitOnce xs y ys
once_split [] y ys h = record { left = tt; right = h.1; out_left = λ m. m; out_right = not_among y ys h.0; apart = λ c m n. m }
once_split (x ∷ xs) y ys h =
    let rest = once_split xs y ys h.1 in
    record {
      left = (absent_of x xs (λ m. not_among x (xs ++ y ∷ ys) h.0 (among_left xs (y ∷ ys) x m)), rest.left);
      right = rest.right;
      out_left = λ m. elim m [
        | inl e ↦ not_among x (xs ++ y ∷ ys) h.0 (among_at xs y ys x (inl (sym e)))
        | inr k ↦ rest.out_left k
      ];
      out_right = rest.out_right;
      apart = λ c m n. elim m [
        | inl e ↦ not_among x (xs ++ y ∷ ys) h.0 (among_at xs y ys x (inr (subst (IsAmong ys) e n)))
        | inr k ↦ rest.apart c k n
      ];
    }

pub once-apart : (t : Tree) → HasNoRepeats (blocks t) → IsApart t
once-apart Leaf h = tt
once-apart (Node b k v l r) h =
    let s = once_split (blocks l) b (blocks r) h in
    (λ m. s.out_left (in_blocks l b m), λ m. s.out_right (in_blocks r b m), λ c m n. s.apart c (in_blocks l c m) (in_blocks r c n), once-apart l s.left, once-apart r s.right)

pub apart_same : (t u : Tree) → blocks u ≡ blocks t → IsApart t → IsApart u
apart_same t u e h = once-apart u (subst HasNoRepeats (sym e) (blocks-once t h))

each_joined : (P : ℕ → Type 0) (xs : List ℕ) (y : ℕ) (ys : List ℕ) → Each P xs → P y → Each P ys → Each P (xs ++ y ∷ ys)
each_joined P [] y ys left here right = (here, right)
each_joined P (x ∷ xs) y ys left here right = (left.0, each_joined P xs y ys left.1 here right)

pub blocks-each : (P : ℕ → Type 0) (t : Tree) → EachNode (λ b k v. P b) t → Each P (blocks t)
blocks-each P Leaf h = tt
blocks-each P (Node b k v l r) h = each_joined P (blocks l) b (blocks r) (blocks-each P l h.1) h.0 (blocks-each P r h.2)

pub height-low : (t : Tree) → height t ≤ length (blocks t)
height-low Leaf = omega arith
height-low (Node b k v l r) =
    let a = height-low l in let z = height-low r in
    let e = length-append (blocks l) (b ∷ blocks r) in
    omega (arith, a, z, e)

place_of : (land : Land) (b : ℕ) → IsOwn land b → IsPlaceBelow land.heap 74242 b
place_of land b own = let f = own.0.fits in let p = own.0.place in (own.0.number, omega (arith, f, p), p)

-- there are no more blocks than words
pub few_blocks : (land : Land) (t : Tree) → AreOwn land t → IsApart t → length (blocks t) ≤ 74242
few_blocks land t own apart = pigeonhole land.heap 74242 (blocks t) (blocks-once t apart)
    (blocks-each (IsPlaceBelow land.heap 74242) t (places t own))
  where
    places : (t : Tree) → AreOwn land t → EachNode (λ b k v. IsPlaceBelow land.heap 74242 b) t
    places Leaf h = tt
    places (Node b k v l r) h = (place_of land b h.0, places l h.1, places r h.2)

pub low_tree : (land : Land) (t : Tree) → AreOwn land t → IsApart t → height t ≤ 74242
low_tree land t own apart = let a = height-low t in let z = few_blocks land t own apart in omega (arith, a, z)
