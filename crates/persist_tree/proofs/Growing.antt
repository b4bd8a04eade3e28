-- A new node comes below a node.
use Rattle.std.proofs.Common.{◌≡◌, ◌≢◌, ◌⊎◌, inl, inr, ℕ, ◌+◌, ◌*◌, ◌<◌, ◌≤◌, true, false, ◌==◌, nat_lt, refl, sym, subst, ◌∙◌, ap, arith}
use Rattle.std.proofs.lemmas.Bool.Decides.{nat_tests}
use Rattle.lane_traits.specs.Space.{Space, IsOwn}
use Rattle.region_layout.specs.TreeMap.{Tree, Leaf, Node, height}
use Rattle.persist_tree.specs.Trees.{IsIn, block_of, joined, with_node}
use Rattle.persist_tree.specs.Changes.{StandsAt, IsRebuilt, AreParts, HasParts, Builds}
use Rattle.persist_tree.specs.Below.{Finds, IsGrowing, CanGrow, Grows}
use Rattle.persist_tree.proofs.Nodes.{EachNode-in, each_in}
use Rattle.persist_tree.proofs.Puts.{with_node-each, with_node-ordered}
use Rattle.persist_tree.proofs.Framing.{block_own, changes_more}
use Rattle.persist_tree.proofs.Turning.{IsNodeAt, node_at, on_left, on_right}
use Rattle.persist_tree.proofs.Rebuilding.{standing_apart, left_rebuilt, right_rebuilt, joined_then}

-- ---- a search goes down

pub finds_none : (s : Space) (a key : ℕ) → a ≡ 0 → Finds s a key 0
finds_none s a key zero_is Leaf h = refl
finds_none s a key zero_is (Node b k v l r) h = absurd (let p = h.own.0.0.positive in let e = h.top_is in omega (arith, e, p, zero_is))

pub finds_here : (s : Space) (a key : ℕ) → 0 < a → key ≡ s.word (a + 1) → Finds s a key a
finds_here s a key positive same t h =
    let n = node_at s a t h positive in
    let is = n.stands.laid.0.key in
    let on : (key == n.k) ≡ true = grind (arith, nat_tests) in
    sym (ap (block_of key) n.is ∙ (rw on refl))

pub finds_left : (s : Space) (a key b : ℕ) → 0 < a → key < s.word (a + 1) → Finds s (s.word (a + 3)) key b → Finds s a key b
finds_left s a key b positive less finds t h =
    let n = node_at s a t h positive in
    let is = n.stands.laid.0.key in
    let off : (key == n.k) ≡ false = grind (arith, nat_tests) in
    let on : nat_lt key n.k ≡ true = grind (arith, nat_tests) in
    finds n.l (on_left s a a n.k n.v n.l n.r n.stands) ∙ sym (ap (block_of key) n.is ∙ (rw (off, on) refl))

pub finds_right : (s : Space) (a key b : ℕ) → 0 < a → key ≢ s.word (a + 1) → s.word (a + 1) ≤ key → Finds s (s.word (a + 4)) key b → Finds s a key b
finds_right s a key b positive apart more finds t h =
    let n = node_at s a t h positive in
    let is = n.stands.laid.0.key in
    let off : (key == n.k) ≡ false = grind (arith, nat_tests) in
    let on : nat_lt key n.k ≡ false = grind (arith, nat_tests) in
    finds n.r (on_right s a a n.k n.v n.l n.r n.stands) ∙ sym (ap (block_of key) n.is ∙ (rw (off, on) refl))

pub finds_in : (s t : Space) (a x key b : ℕ) → t ≡ s → x ≡ a → Finds t x key b → Finds s a key b
finds_in s t a x key b same here h = subst (λ (y : Space). Finds y a key b) same (subst (λ y. Finds t y key b) here h)

-- ---- growth

pub builds_from : (built : ℕ → ℕ → ℕ → Tree → Tree → Tree) (n : ℕ) (s u : Space) (b left right x y link : ℕ) → x ≡ left → y ≡ right → Builds built n s u b x y link → Builds built n s u b left right link
builds_from built n s u b left right x y link is_left is_right h = subst (λ z. Builds built n s u b z right link) is_left (subst (λ z. Builds built n s u b x z link) is_right h)

pub grows_in : (s t u : Space) (a x fresh key value link : ℕ) → t ≡ s → x ≡ a → Grows t u x fresh key value link → Grows s u a fresh key value link
grows_in s t u a x fresh key value link same here h = subst (λ (y : Space). Grows y u a fresh key value link) same (subst (λ y. Grows t u y fresh key value link) here h)

pub can_grow_in : (s t : Space) (a x fresh key : ℕ) → t ≡ s → x ≡ a → CanGrow s a fresh key → CanGrow t x fresh key
can_grow_in s t a x fresh key same here h = subst (λ (y : Space). CanGrow y x fresh key) (sym same) (subst (λ y. CanGrow s y fresh key) (sym here) h)

pub grows_leaf : (s u : Space) (a fresh key value : ℕ) → a ≡ 0 → IsRebuilt (λ c. c ≡ fresh) 5 s u fresh (Node fresh key value Leaf Leaf) → Grows s u a fresh key value fresh
grows_leaf s u a fresh key value zero_is placed Leaf h = record { changes = changes_more (λ c. c ≡ fresh) (λ c. ⊥ ⊎ (c ≡ fresh)) 5 5 s u placed.changes (λ c e. inr e) (omega arith); stands = placed.stands }
grows_leaf s u a fresh key value zero_is placed (Node b k v l r) h = absurd (let p = h.stands.own.0.0.positive in let e = h.stands.top_is in omega (arith, e, p, zero_is))

-- the node and what it was opened from
growing_node : (s : Space) (a fresh key : ℕ) (t : Tree) (h : IsGrowing s a fresh key t) (n : IsNodeAt s a t) → IsGrowing s a fresh key (Node a n.k n.v n.l n.r)
growing_node s a fresh key t h n = subst (IsGrowing s a fresh key) n.is h

growing_left : (s : Space) (a fresh key k v : ℕ) (l r : Tree) → IsGrowing s a fresh key (Node a k v l r) → IsGrowing s (s.word (a + 3)) fresh key l
growing_left s a fresh key k v l r h = record { stands = on_left s a a k v l r h.stands; ordered = h.ordered.2; absent = h.absent.1; own = h.own; new = λ m. h.new (inr (inl m)) }

growing_right : (s : Space) (a fresh key k v : ℕ) (l r : Tree) → IsGrowing s a fresh key (Node a k v l r) → IsGrowing s (s.word (a + 4)) fresh key r
growing_right s a fresh key k v l r h = record { stands = on_right s a a k v l r h.stands; ordered = h.ordered.3; absent = h.absent.2; own = h.own; new = λ m. h.new (inr (inr m)) }

pub can_grow_left : (s : Space) (a fresh key : ℕ) → 0 < a → CanGrow s a fresh key → CanGrow s (s.word (a + 3)) fresh key
can_grow_left s a fresh key positive h =
    let n = node_at s a h.tree h.is.stands positive in
    record { tree = n.l; is = growing_left s a fresh key n.k n.v n.l n.r (growing_node s a fresh key h.tree h.is n) }

pub can_grow_right : (s : Space) (a fresh key : ℕ) → 0 < a → CanGrow s a fresh key → CanGrow s (s.word (a + 4)) fresh key
can_grow_right s a fresh key positive h =
    let n = node_at s a h.tree h.is.stands positive in
    record { tree = n.r; is = growing_right s a fresh key n.k n.v n.l n.r (growing_node s a fresh key h.tree h.is n) }

module _ (s u : Space) (a fresh key value link : ℕ) where
  -- the blocks of a grown side
  from_side : (t : Tree) (c : ℕ) → IsIn (with_node fresh key value t) c → IsIn t c ⊎ (c ≡ fresh)
  from_side t c h = EachNode-in (λ d. IsIn t d ⊎ (d ≡ fresh)) (with_node fresh key value t) c
      (with_node-each (λ d j i. IsIn t d ⊎ (d ≡ fresh)) fresh key value t (inr refl) (each_in (λ d. IsIn t d ⊎ (d ≡ fresh)) t (λ d m. inl m))) h

  own_side : (t : Tree) → StandsAt s a t → IsOwn s.land fresh → (c : ℕ) → IsIn t c ⊎ (c ≡ fresh) → IsOwn s.land c
  own_side t stands own c (inl h) = block_own s.land t c stands.own h
  own_side t stands own c (inr e) = subst (IsOwn s.land) (sym e) own

  grown_left_parts : (k v : ℕ) (l r : Tree) → (h : IsGrowing s a fresh key (Node a k v l r)) → key < k → Grows s u (s.word (a + 3)) fresh key value link
      → AreParts u a link (s.word (a + 4)) k v (with_node fresh key value l) r
  grown_left_parts k v l r h less grows =
      let apart = standing_apart s a (Node a k v l r) h.stands h.ordered in
      let built = grows l (growing_left s a fresh key k v l r h) in
      left_rebuilt s u (λ c. IsIn l c ⊎ (c ≡ fresh)) (5 + 9 * height l) a a k v l r h.stands h.ordered built.changes
      (λ c m. own_left c m)
      (λ m. elim m [ inl x ↦ apart.0 x | inr e ↦ h.new (inl (sym e)) ])
      link (with_node fresh key value l) built.stands
      (λ c x m. elim m [ inl y ↦ apart.2 c y x | inr e ↦ h.new (inr (inr (subst (IsIn r) e x))) ])
      (with_node-each (λ d j i. j < k) fresh key value l less h.ordered.0)
      (with_node-ordered fresh key value l h.ordered.2 h.absent.1)
    where
      own_left : (c : ℕ) → IsIn l c ⊎ (c ≡ fresh) → IsOwn s.land c
      own_left c (inl m) = block_own s.land l c h.stands.own.1 m
      own_left c (inr e) = subst (IsOwn s.land) (sym e) h.own

  grown_right_parts : (k v : ℕ) (l r : Tree) → (h : IsGrowing s a fresh key (Node a k v l r)) → k < key → Grows s u (s.word (a + 4)) fresh key value link
      → AreParts u a (s.word (a + 3)) link k v l (with_node fresh key value r)
  grown_right_parts k v l r h more grows =
      let apart = standing_apart s a (Node a k v l r) h.stands h.ordered in
      let built = grows r (growing_right s a fresh key k v l r h) in
      right_rebuilt s u (λ c. IsIn r c ⊎ (c ≡ fresh)) (5 + 9 * height r) a a k v l r h.stands h.ordered built.changes
      (λ c m. own_right c m)
      (λ m. elim m [ inl x ↦ apart.1 x | inr e ↦ h.new (inl (sym e)) ])
      link (with_node fresh key value r) built.stands
      (λ c x m. elim m [ inl y ↦ apart.2 c x y | inr e ↦ h.new (inr (inl (subst (IsIn l) e x))) ])
      (with_node-each (λ d j i. k < j) fresh key value r more h.ordered.1)
      (with_node-ordered fresh key value r h.ordered.3 h.absent.2)
    where
      own_right : (c : ℕ) → IsIn r c ⊎ (c ≡ fresh) → IsOwn s.land c
      own_right c (inl m) = block_own s.land r c h.stands.own.2 m
      own_right c (inr e) = subst (IsOwn s.land) (sym e) h.own

  pub grow_left-parts : 0 < a → CanGrow s a fresh key → key < s.word (a + 1) → Grows s u (s.word (a + 3)) fresh key value link → HasParts u a link (s.word (a + 4))
  grow_left-parts positive h less grows =
      let n = node_at s a h.tree h.is.stands positive in
      let is = n.stands.laid.0.key in
      record {
        k = n.k;
        v = n.v;
        l = with_node fresh key value n.l;
        r = n.r;
        are = grown_left_parts n.k n.v n.l n.r (growing_node s a fresh key h.tree h.is n) (omega (arith, less, is)) grows;
      }

  pub grow_right-parts : 0 < a → CanGrow s a fresh key → s.word (a + 1) ≤ key → Grows s u (s.word (a + 4)) fresh key value link → HasParts u a (s.word (a + 3)) link
  grow_right-parts positive h more grows =
      let n = node_at s a h.tree h.is.stands positive in
      let is = n.stands.laid.0.key in
      let g = growing_node s a fresh key h.tree h.is n in
      let apart = g.absent.0 in
      record {
        k = n.k;
        v = n.v;
        l = n.l;
        r = with_node fresh key value n.r;
        are = grown_right_parts n.k n.v n.l n.r g (omega (arith, more, is, apart)) grows;
      }

  module _ (w : Space) (top : ℕ) (positive : 0 < a) where
    pub grow_left-grows : key < s.word (a + 1) → Grows s u (s.word (a + 3)) fresh key value link → Builds joined 9 u w a link (s.word (a + 4)) top → Grows s w a fresh key value top
    grow_left-grows less grows builds t h =
        let n = node_at s a t h.stands positive in
        let is = n.stands.laid.0.key in
        let g = growing_node s a fresh key t h n in
        let on : nat_lt key n.k ≡ true = grind (arith, nat_tests) in
        let built = grows n.l (growing_left s a fresh key n.k n.v n.l n.r g) in
        subst (λ (x : Tree). IsRebuilt (λ c. IsIn x c ⊎ (c ≡ fresh)) (5 + 9 * height x) s w top (with_node fresh key value x)) (sym n.is)
        (rw on (joined_then s u w (λ c. IsIn n.l c ⊎ (c ≡ fresh)) (λ c. IsIn (Node a n.k n.v n.l n.r) c ⊎ (c ≡ fresh)) (5 + 9 * height n.l) (5 + 9 * height (Node a n.k n.v n.l n.r))
        a link (s.word (a + 4)) top n.k n.v (with_node fresh key value n.l) n.r built.changes builds (grown_left_parts n.k n.v n.l n.r g (omega (arith, less, is)) grows)
        (λ c m. elim m [ inl x ↦ inl (inr (inl x)) | inr e ↦ inr e ]) (inl (inl refl))
        (λ c m. elim (from_side n.l c m) [ inl x ↦ inl (inr (inl x)) | inr e ↦ inr e ])
        (λ c m. inl (inr (inr m)))
        (omega arith)))

    pub grow_right-grows : s.word (a + 1) ≤ key → Grows s u (s.word (a + 4)) fresh key value link → Builds joined 9 u w a (s.word (a + 3)) link top → Grows s w a fresh key value top
    grow_right-grows more grows builds t h =
        let n = node_at s a t h.stands positive in
        let is = n.stands.laid.0.key in
        let g = growing_node s a fresh key t h n in
        let off : nat_lt key n.k ≡ false = grind (arith, nat_tests) in
        let built = grows n.r (growing_right s a fresh key n.k n.v n.l n.r g) in
        let apart = g.absent.0 in
        subst (λ (x : Tree). IsRebuilt (λ c. IsIn x c ⊎ (c ≡ fresh)) (5 + 9 * height x) s w top (with_node fresh key value x)) (sym n.is)
        (rw off (joined_then s u w (λ c. IsIn n.r c ⊎ (c ≡ fresh)) (λ c. IsIn (Node a n.k n.v n.l n.r) c ⊎ (c ≡ fresh)) (5 + 9 * height n.r) (5 + 9 * height (Node a n.k n.v n.l n.r))
        a (s.word (a + 3)) link top n.k n.v n.l (with_node fresh key value n.r) built.changes builds (grown_right_parts n.k n.v n.l n.r g (omega (arith, more, is, apart)) grows)
        (λ c m. elim m [ inl x ↦ inl (inr (inr x)) | inr e ↦ inr e ]) (inl (inl refl))
        (λ c m. inl (inr (inl m)))
        (λ c m. elim (from_side n.r c m) [ inl x ↦ inl (inr (inr x)) | inr e ↦ inr e ])
        (omega arith)))
