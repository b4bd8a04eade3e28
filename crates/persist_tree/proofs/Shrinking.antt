-- A node goes from below a node.
use Rattle.std.proofs.Common.{◌≡◌, ◌⊎◌, inl, inr, ℕ, ◌+◌, ◌*◌, ◌<◌, true, false, ◌==◌, nat_lt, ◌∷◌, refl, sym, subst, ◌∙◌, ap, arith}
use Rattle.std.proofs.lemmas.Bool.Decides.{nat_tests}
use Rattle.persist_model.specs.Region.{Words}
use Rattle.persist_model.specs.Chain.{HasNoRepeats, IsAbsent}
use Rattle.lane_traits.specs.Space.{Land, Space, IsOwn}
use Rattle.region_layout.specs.FiniteMap.{AreAfter, HasAscendingKeys}
use Rattle.region_layout.specs.TreeMap.{Tree, Leaf, Node, height, IsLaid, EachNode, AreAbove, IsOrdered, in_order, entries}
use Rattle.persist_tree.specs.Trees.{IsIn, joined, first_of, without_first, without_node}
use Rattle.persist_tree.specs.Changes.{StandsAt, IsRebuilt, AreParts, HasParts, HasNode, Builds}
use Rattle.persist_tree.specs.Below.{IsDropping, CanDrop, LeadsFirst, Drops, AreMerging, CanMerge, Merges, IsShrinking, CanShrink, Shrinks}
use Rattle.persist_tree.proofs.Nodes.{EachNode-in, each_in, below_less, in_blocks}
use Rattle.persist_tree.proofs.Joining.{joined-in}
use Rattle.persist_tree.proofs.Ordering.{entries_ascend, above_of}
use Rattle.persist_tree.proofs.Removals.{without_first-order, firsts-is, first-each, without_first-each, without_first-ordered, without_node-each, without_node-ordered}
use Rattle.persist_tree.proofs.Counting.{blocks-once, not_among}
use Rattle.persist_tree.proofs.Framing.{laid_keys, key_below, key_above, apart_of, block_own, word_kept, stands_kept, changes_none, changes_more}
use Rattle.persist_tree.proofs.Turning.{IsNodeAt, node_at, on_left, on_right, stands_in}
use Rattle.persist_tree.proofs.Rebuilding.{standing_apart, left_rebuilt, right_rebuilt, joined_then}

-- ---- the leftmost node

pub leads_here : (s : Space) (a : ℕ) → s.word (a + 3) ≡ 0 → LeadsFirst s a a
leads_here s a none k v Leaf r h = refl
leads_here s a none k v (Node c j u ll lr) r h = absurd (let e = h.laid.0.left_is in let p = h.own.1.0.0.positive in omega (arith, e, p, none))

pub leads_left : (s : Space) (a b : ℕ) → 0 < s.word (a + 3) → LeadsFirst s (s.word (a + 3)) b → LeadsFirst s a b
leads_left s a b some leads k v Leaf r h = absurd (let e = h.laid.0.left_is in omega (arith, e, some))
leads_left s a b some leads k v (Node c j u ll lr) r h =
    let e = h.laid.0.left_is in
    leads j u ll lr (subst (λ x. StandsAt s (s.word (a + 3)) (Node x j u ll lr)) (sym e) (on_left s a a k v (Node c j u ll lr) r h))
    ∙ ap (λ x. first_of (λ p q i. p) x ll) e

pub leads_in : (s t : Space) (a x b : ℕ) → t ≡ s → x ≡ a → LeadsFirst t x b → LeadsFirst s a b
leads_in s t a x b same here h = subst (λ (y : Space). LeadsFirst y a b) same (subst (λ y. LeadsFirst t y b) here h)

pub can_drop_in : (s t : Space) (a x : ℕ) → t ≡ s → x ≡ a → CanDrop s a → CanDrop t x
can_drop_in s t a x same here h = subst (λ (y : Space). CanDrop y x) (sym same) (subst (λ y. CanDrop s y) (sym here) h)

pub drops_in : (s t u : Space) (a x link : ℕ) → t ≡ s → x ≡ a → Drops t u x link → Drops s u a link
drops_in s t u a x link same here h = subst (λ (y : Space). Drops y u a link) same (subst (λ y. Drops t u y link) here h)

-- what stands on the left of a node with a left side
dropping_left : (s : Space) (a k v : ℕ) (l r : Tree) → IsDropping s a (Node a k v l r) → IsDropping s (s.word (a + 3)) l
dropping_left s a k v l r h = record { stands = on_left s a a k v l r h.stands; ordered = h.ordered.2 }

pub can_drop-positive : (s : Space) (a : ℕ) → CanDrop s a → 0 < a
can_drop-positive s a h = h.is.stands.own.0.0.positive

pub can_drop-node : (s : Space) (a : ℕ) → CanDrop s a → HasNode s a
can_drop-node s a h = record { k = h.k; v = h.v; l = h.l; r = h.r; stands = h.is.stands }

pub can_drop_left : (s : Space) (a : ℕ) → 0 < s.word (a + 3) → CanDrop s a → CanDrop s (s.word (a + 3))
can_drop_left s a some h =
    let n = node_at s (s.word (a + 3)) h.l (on_left s a a h.k h.v h.l h.r h.is.stands) some in
    record { k = n.k; v = n.v; l = n.l; r = n.r; is = record { stands = n.stands; ordered = subst IsOrdered n.is h.is.ordered.2 } }

pub drops_here : (s u : Space) (a : ℕ) → 0 < a → s.word (a + 3) ≡ 0 → u ≡ s → Drops s u a (s.word (a + 4))
drops_here s u a positive none same Leaf h = absurd (let e = h.stands.top_is in omega (arith, e, positive))
drops_here s u a positive none same (Node b k v (Node c j i ll lr) r) h =
    absurd (let e = h.stands.laid.0.left_is in let p = h.stands.own.1.0.0.positive in let same_b = h.stands.top_is in
    let f : s.word (a + 3) ≡ s.word (b + 3) = ap (λ x. s.word (x + 3)) same_b in omega (arith, e, f, p, none))
drops_here s u a positive none same (Node b k v Leaf r) h = record {
  changes = changes_more (IsIn r) (IsIn r) 0 (9 * height (Node b k v Leaf r)) s u (changes_none (IsIn r) s u same) (λ c m. m) (omega arith);
  stands = stands_in s u (s.word (b + 4)) (s.word (a + 4)) r same (ap (λ x. s.word (x + 4)) h.stands.top_is) (on_right s a b k v Leaf r h.stands);
}

module _ (s u : Space) (a link : ℕ) where
  -- what is without its first node is part of the tree
  part_of : (t : Tree) (c : ℕ) → IsIn (without_first t) c → IsIn t c
  part_of t c h = EachNode-in (IsIn t) (without_first t) c (without_first-each (λ d j i. IsIn t d) t (each_in (IsIn t) t (λ d m. m))) h

  dropped_parts : (k v : ℕ) (l r : Tree) → (h : IsDropping s a (Node a k v l r)) → Drops s u (s.word (a + 3)) link → AreParts u a link (s.word (a + 4)) k v (without_first l) r
  dropped_parts k v l r h drops =
      let apart = standing_apart s a (Node a k v l r) h.stands h.ordered in
      let built = drops l (dropping_left s a k v l r h) in
      left_rebuilt s u (IsIn (without_first l)) (9 * height l) a a k v l r h.stands h.ordered built.changes
      (λ c m. block_own s.land l c h.stands.own.1 (part_of l c m))
      (λ m. apart.0 (part_of l a m))
      link (without_first l) built.stands
      (λ c x m. apart.2 c (part_of l c m) x)
      (without_first-each (λ d j i. j < k) l h.ordered.0)
      (without_first-ordered l h.ordered.2)

  pub drop_parts : CanDrop s a → Drops s u (s.word (a + 3)) link → HasParts u a link (s.word (a + 4))
  drop_parts h drops = record { k = h.k; v = h.v; l = without_first h.l; r = h.r; are = dropped_parts h.k h.v h.l h.r h.is drops }

  pub drops_joined : (w : Space) (above : ℕ) → 0 < a → 0 < s.word (a + 3) → Drops s u (s.word (a + 3)) link → Builds joined 9 u w a link (s.word (a + 4)) above → Drops s w a above
  drops_joined w above positive some drops builds Leaf h = absurd (let e = h.stands.top_is in omega (arith, e, positive))
  drops_joined w above positive some drops builds (Node b k v Leaf r) h =
      absurd (let e = h.stands.laid.0.left_is in let same_b = h.stands.top_is in let f : s.word (a + 3) ≡ s.word (b + 3) = ap (λ x. s.word (x + 3)) same_b in omega (arith, e, f, some))
  drops_joined w above positive some drops builds (Node b k v (Node c j i ll lr) r) h =
      let g = subst (λ x. IsDropping s a (Node x k v (Node c j i ll lr) r)) (sym h.stands.top_is) h in
      let built = drops (Node c j i ll lr) (dropping_left s a k v (Node c j i ll lr) r g) in
      subst (λ x. IsRebuilt (IsIn (joined x k v (without_first (Node c j i ll lr)) r)) (9 * height (Node x k v (Node c j i ll lr) r)) s w above (joined x k v (without_first (Node c j i ll lr)) r)) h.stands.top_is
      (joined_then s u w (IsIn (without_first (Node c j i ll lr))) (IsIn (joined a k v (without_first (Node c j i ll lr)) r)) (9 * height (Node c j i ll lr)) (9 * height (Node a k v (Node c j i ll lr) r))
      a link (s.word (a + 4)) above k v (without_first (Node c j i ll lr)) r built.changes builds (dropped_parts k v (Node c j i ll lr) r g drops)
      (λ d m. joined-in a k v (without_first (Node c j i ll lr)) r d (inr (inl m)))
      (joined-in a k v (without_first (Node c j i ll lr)) r a (inl refl))
      (λ d m. joined-in a k v (without_first (Node c j i ll lr)) r d (inr (inl m)))
      (λ d m. joined-in a k v (without_first (Node c j i ll lr)) r d (inr (inr m)))
      (omega arith))

-- ---- two sides come together

pub merges_in : (s t u : Space) (left right x y link : ℕ) → t ≡ s → x ≡ left → y ≡ right → Merges t u x y link → Merges s u left right link
merges_in s t u left right x y link same is_left is_right h =
    subst (λ (z : Space). Merges z u left right link) same (subst (λ z. Merges t u z right link) is_left (subst (λ z. Merges t u x z link) is_right h))

pub can_merge_in : (s t : Space) (left right x y : ℕ) → t ≡ s → x ≡ left → y ≡ right → CanMerge s left right → CanMerge t x y
can_merge_in s t left right x y same is_left is_right h =
    subst (λ (z : Space). CanMerge z x y) (sym same) (subst (λ z. CanMerge s z y) (sym is_left) (subst (λ z. CanMerge s left z) (sym is_right) h))

pub merges_left : (s : Space) (left right : ℕ) → right ≡ 0 → Merges s s left right left
merges_left s left right none key l Leaf h = record {
  changes = changes_more (λ c. IsIn l c ⊎ ⊥) (λ c. IsIn l c ⊎ ⊥) 0 9 s s (changes_none (λ c. IsIn l c ⊎ ⊥) s s refl) (λ c m. m) (omega arith);
  stands = h.on_left.stands;
}
merges_left s left right none key l (Node b k v rl rr) h = absurd (let e = h.on_right.stands.top_is in let p = h.on_right.stands.own.0.0.positive in omega (arith, e, p, none))

pub merges_right : (s : Space) (left right : ℕ) → left ≡ 0 → 0 < right → Merges s s left right right
merges_right s left right none some key l Leaf h = absurd (let e = h.on_right.stands.top_is in omega (arith, e, some))
merges_right s left right none some key Leaf (Node b k v rl rr) h = record {
  changes = changes_more (λ c. ⊥ ⊎ IsIn (Node b k v rl rr) c) (λ c. ⊥ ⊎ IsIn (Node b k v rl rr) c) 0 (9 + 9 * height (Node b k v rl rr)) s s
      (changes_none (λ c. ⊥ ⊎ IsIn (Node b k v rl rr) c) s s refl) (λ c m. m) (omega arith);
  stands = h.on_right.stands;
}
merges_right s left right none some key (Node c j u ll lr) (Node b k v rl rr) h = absurd (let e = h.on_left.stands.top_is in let p = h.on_left.stands.own.0.0.positive in omega (arith, e, p, none))

laid_words : (w : Words) (t : Tree) → IsLaid w t → EachNode (λ b k v. (w (b + 1) ≡ k) × (w (b + 2) ≡ v)) t
laid_words w Leaf laid = tt
laid_words w (Node b k v l r) laid = ((laid.0.key, laid.0.value), laid_words w l laid.1, laid_words w r laid.2)

-- the block, key and value of the leftmost node
abbrev first_block : ℕ → Tree → ℕ
first_block b l = first_of (λ x y z. x) b l

abbrev first_key : ℕ → Tree → ℕ
first_key k l = first_of (λ x y z. y) k l

abbrev first_value : ℕ → Tree → ℕ
first_value v l = first_of (λ x y z. z) v l

rest_above : (b k v : ℕ) (l r : Tree) → IsOrdered (Node b k v l r) → AreAbove (first_key k l) (without_first (Node b k v l r))
rest_above b k v l r ordered = above_of (first_key k l) (without_first (Node b k v l r)) (head_below
    (subst HasAscendingKeys (without_first-order (λ x y z. (y, z)) b k v l r ∙ ap (λ p. p ∷ entries (without_first (Node b k v l r))) (firsts-is (λ x y z. (y, z)) b k v l)) (entries_ascend (Node b k v l r) ordered)))
  where
    head_below : HasAscendingKeys ((first_key k l, first_value v l) ∷ entries (without_first (Node b k v l r))) → AreAfter (first_key k l) (entries (without_first (Node b k v l r)))
    head_below h = h.0

module _ (s u : Space) (left right rest key : ℕ) (l : Tree) (b k v : ℕ) (rl rr : Tree) (h : AreMerging s left right key l (Node b k v rl rr)) (drops : Drops s u right rest) where
  merging_apart : (c : ℕ) → IsIn l c → IsIn (Node b k v rl rr) c → ⊥
  merging_apart c m n =
      let less = key_below s.word l key c (laid_keys s.word l h.on_left.stands.laid) h.below m in
      let more = key_above s.word (Node b k v rl rr) key c (laid_keys s.word (Node b k v rl rr) h.on_right.stands.laid) h.above n in
      omega (arith, less, more)

  built : IsRebuilt (IsIn (without_first (Node b k v rl rr))) (9 * height (Node b k v rl rr)) s u rest (without_first (Node b k v rl rr))
  built = drops (Node b k v rl rr) h.on_right

  first_in : IsIn (Node b k v rl rr) (first_block b rl)
  first_in = first-each (λ d j i. IsIn (Node b k v rl rr) d) b k v rl rr (each_in (IsIn (Node b k v rl rr)) (Node b k v rl rr) (λ d m. m))

  first_own : IsOwn s.land (first_block b rl)
  first_own = first-each (λ d j i. IsOwn s.land d) b k v rl rr h.on_right.stands.own

  first_out : IsIn (without_first (Node b k v rl rr)) (first_block b rl) → ⊥
  first_out m = not_among (first_block b rl) (in_order (λ x y z. x) (without_first (Node b k v rl rr)))
      (once_head (subst HasNoRepeats (without_first-order (λ x y z. x) b k v rl rr)
      (blocks-once (Node b k v rl rr) (standing_apart s right (Node b k v rl rr) h.on_right.stands h.on_right.ordered))))
      (in_blocks (without_first (Node b k v rl rr)) (first_block b rl) m)
    where
      once_head : HasNoRepeats (first_block b rl ∷ in_order (λ x y z. x) (without_first (Node b k v rl rr))) → IsAbsent (first_block b rl) (in_order (λ x y z. x) (without_first (Node b k v rl rr)))
      once_head once = once.0

  rest_own : (d : ℕ) → IsIn (without_first (Node b k v rl rr)) d → IsOwn s.land d
  rest_own d m = block_own s.land (Node b k v rl rr) d h.on_right.stands.own (part_of s u right rest (Node b k v rl rr) d m)

  first_word : (i : ℕ) → i < 16 → u.word (first_block b rl + i) ≡ s.word (first_block b rl + i)
  first_word i li = word_kept (IsIn (without_first (Node b k v rl rr))) (9 * height (Node b k v rl rr)) s u (first_block b rl) i built.changes (λ d m. (rest_own d m).0) first_own.0 first_out li

  first_words : (s.word (first_block b rl + 1) ≡ first_key k rl) × (s.word (first_block b rl + 2) ≡ first_value v rl)
  first_words = first-each (λ d j i. (s.word (d + 1) ≡ j) × (s.word (d + 2) ≡ i)) b k v rl rr (laid_words s.word (Node b k v rl rr) h.on_right.stands.laid)

  pub merged_parts : AreParts u (first_block b rl) left rest (first_key k rl) (first_value v rl) l (without_first (Node b k v rl rr))
  merged_parts =
      let l_stands = stands_kept (IsIn (without_first (Node b k v rl rr))) (9 * height (Node b k v rl rr)) s u left l built.changes (λ d m. (rest_own d m).0)
      (λ c m n. merging_apart c m (part_of s u right rest (Node b k v rl rr) c n)) h.on_left.stands in
      let above : key < first_key k rl = first-each (λ d j i. key < j) b k v rl rr h.above in
      record {
        own = subst (λ (y : Land). IsOwn y (first_block b rl)) (sym built.changes.land) first_own;
        key = first_word 1 (omega arith) ∙ first_words.0;
        value = first_word 2 (omega arith) ∙ first_words.1;
        on_left = l_stands;
        on_right = built.stands;
        apart = apart_of u.word (Node (first_block b rl) (first_key k rl) (first_value v rl) l (without_first (Node b k v rl rr)))
            (first_word 1 (omega arith) ∙ first_words.0, laid_keys u.word l l_stands.laid, laid_keys u.word (without_first (Node b k v rl rr)) built.stands.laid)
            (below_less l key (first_key k rl) (omega (arith, above)) h.below, rest_above b k v rl rr h.on_right.ordered, h.on_left.ordered, without_first-ordered (Node b k v rl rr) h.on_right.ordered);
      }

  pub merged_built : (w : Space) (link : ℕ) → Builds joined 9 u w (first_block b rl) left rest link
      → IsRebuilt (λ c. IsIn l c ⊎ IsIn (Node b k v rl rr) c) (9 + 9 * height (Node b k v rl rr)) s w link (joined (first_block b rl) (first_key k rl) (first_value v rl) l (without_first (Node b k v rl rr)))
  merged_built w link builds = joined_then s u w (IsIn (without_first (Node b k v rl rr))) (λ c. IsIn l c ⊎ IsIn (Node b k v rl rr) c) (9 * height (Node b k v rl rr)) (9 + 9 * height (Node b k v rl rr))
      (first_block b rl) left rest link (first_key k rl) (first_value v rl) l (without_first (Node b k v rl rr)) built.changes builds merged_parts
      (λ c m. inr (part_of s u right rest (Node b k v rl rr) c m)) (inr first_in) (λ c m. inl m) (λ c m. inr (part_of s u right rest (Node b k v rl rr) c m)) (omega arith)

-- the first block of the right side
first_is : (s : Space) (right first b k v : ℕ) (rl rr : Tree) → StandsAt s right (Node b k v rl rr) → LeadsFirst s right first → first ≡ first_block b rl
first_is s right first b k v rl rr stands leads =
    leads k v rl rr (subst (λ x. StandsAt s right (Node x k v rl rr)) (sym stands.top_is) stands) ∙ ap (λ x. first_block x rl) stands.top_is

pub merge_parts : (s u : Space) (left right first rest : ℕ) → 0 < right → CanMerge s left right → LeadsFirst s right first → Drops s u right rest → HasParts u first left rest
merge_parts s u left right first rest some h leads drops = by_right h.r h.are
  where
    by_right : (r : Tree) → AreMerging s left right h.key h.l r → HasParts u first left rest
    by_right Leaf are = absurd (let e = are.on_right.stands.top_is in omega (arith, e, some))
    by_right (Node b k v rl rr) are = subst (λ x. HasParts u x left rest) (sym (first_is s right first b k v rl rr are.on_right.stands leads)) (record {
      k = first_key k rl;
      v = first_value v rl;
      l = h.l;
      r = without_first (Node b k v rl rr);
      are = merged_parts s u left right rest h.key h.l b k v rl rr are drops;
    })

pub merges_joined : (s u w : Space) (left right first rest link : ℕ) → 0 < left → 0 < right → LeadsFirst s right first → Drops s u right rest → Builds joined 9 u w first left rest link
    → Merges s w left right link
merges_joined s u w left right first rest link positive some leads drops builds key l Leaf h = absurd (let e = h.on_right.stands.top_is in omega (arith, e, some))
merges_joined s u w left right first rest link positive some leads drops builds key Leaf (Node b k v rl rr) h = absurd (let e = h.on_left.stands.top_is in omega (arith, e, positive))
merges_joined s u w left right first rest link positive some leads drops builds key (Node c j i ll lr) (Node b k v rl rr) h =
    merged_built s u left right rest key (Node c j i ll lr) b k v rl rr h drops w link
    (subst (λ x. Builds joined 9 u w x left rest link) (first_is s right first b k v rl rr h.on_right.stands leads) builds)

pub can_drop_right : (s : Space) (left right : ℕ) → 0 < right → CanMerge s left right → CanDrop s right
can_drop_right s left right some h =
    let n = node_at s right h.r h.are.on_right.stands some in
    record { k = n.k; v = n.v; l = n.l; r = n.r; is = record { stands = n.stands; ordered = subst IsOrdered n.is h.are.on_right.ordered } }

-- ---- the node of a key

pub can_shrink_in : (s t : Space) (a x key : ℕ) → t ≡ s → x ≡ a → CanShrink s a key → CanShrink t x key
can_shrink_in s t a x key same here h = subst (λ (y : Space). CanShrink y x key) (sym same) (subst (λ y. CanShrink s y key) (sym here) h)

pub shrinks_in : (s t u : Space) (a x key link : ℕ) → t ≡ s → x ≡ a → Shrinks t u x key link → Shrinks s u a key link
shrinks_in s t u a x key link same here h = subst (λ (y : Space). Shrinks y u a key link) same (subst (λ y. Shrinks t u y key link) here h)

pub can_shrink-node : (s : Space) (a key : ℕ) → CanShrink s a key → HasNode s a
can_shrink-node s a key h = by_tree h.tree h.is
  where
    by_tree : (t : Tree) → IsShrinking s a key t → HasNode s a
    by_tree Leaf is = absurd (is.present refl)
    by_tree (Node b k v l r) is = record { k = k; v = v; l = l; r = r; stands = subst (λ x. StandsAt s a (Node x k v l r)) (sym is.stands.top_is) is.stands }

shrinking_node : (s : Space) (a key : ℕ) (t : Tree) (h : IsShrinking s a key t) (n : IsNodeAt s a t) → IsShrinking s a key (Node a n.k n.v n.l n.r)
shrinking_node s a key t h n = subst (IsShrinking s a key) n.is h

shrinking_left : (s : Space) (a key k v : ℕ) (l r : Tree) → key < k → IsShrinking s a key (Node a k v l r) → IsShrinking s (s.word (a + 3)) key l
shrinking_left s a key k v l r less h =
    let off : (key == k) ≡ false = grind (arith, nat_tests) in
    let on : nat_lt key k ≡ true = grind (arith, nat_tests) in
    let present = h.present in
    record { stands = on_left s a a k v l r h.stands; ordered = h.ordered.2; present = rw (off, on) at present }

shrinking_right : (s : Space) (a key k v : ℕ) (l r : Tree) → k < key → IsShrinking s a key (Node a k v l r) → IsShrinking s (s.word (a + 4)) key r
shrinking_right s a key k v l r more h =
    let off : (key == k) ≡ false = grind (arith, nat_tests) in
    let on : nat_lt key k ≡ false = grind (arith, nat_tests) in
    let present = h.present in
    record { stands = on_right s a a k v l r h.stands; ordered = h.ordered.3; present = rw (off, on) at present }

pub can_shrink_left : (s : Space) (a key : ℕ) → 0 < a → key < s.word (a + 1) → CanShrink s a key → CanShrink s (s.word (a + 3)) key
can_shrink_left s a key positive less h =
    let n = node_at s a h.tree h.is.stands positive in
    let is = n.stands.laid.0.key in
    record { tree = n.l; is = shrinking_left s a key n.k n.v n.l n.r (omega (arith, less, is)) (shrinking_node s a key h.tree h.is n) }

pub can_shrink_right : (s : Space) (a key : ℕ) → 0 < a → s.word (a + 1) < key → CanShrink s a key → CanShrink s (s.word (a + 4)) key
can_shrink_right s a key positive more h =
    let n = node_at s a h.tree h.is.stands positive in
    let is = n.stands.laid.0.key in
    record { tree = n.r; is = shrinking_right s a key n.k n.v n.l n.r (omega (arith, more, is)) (shrinking_node s a key h.tree h.is n) }

merging_sides : (s : Space) (a key k v : ℕ) (l r : Tree) → IsShrinking s a key (Node a k v l r) → AreMerging s (s.word (a + 3)) (s.word (a + 4)) k l r
merging_sides s a key k v l r h = record {
  on_left = record { stands = on_left s a a k v l r h.stands; ordered = h.ordered.2 };
  on_right = record { stands = on_right s a a k v l r h.stands; ordered = h.ordered.3 };
  below = h.ordered.0;
  above = h.ordered.1;
}

pub can_merge_sides : (s : Space) (a key : ℕ) → 0 < a → CanShrink s a key → CanMerge s (s.word (a + 3)) (s.word (a + 4))
can_merge_sides s a key positive h =
    let n = node_at s a h.tree h.is.stands positive in
    record { key = n.k; l = n.l; r = n.r; are = merging_sides s a key n.k n.v n.l n.r (shrinking_node s a key h.tree h.is n) }

pub shrinks_merged : (s u : Space) (a key link : ℕ) → 0 < a → key ≡ s.word (a + 1) → Merges s u (s.word (a + 3)) (s.word (a + 4)) link → Shrinks s u a key link
shrinks_merged s u a key link positive same merges t h =
    let n = node_at s a t h.stands positive in
    let is = n.stands.laid.0.key in
    let on : (key == n.k) ≡ true = grind (arith, nat_tests) in
    let built = merges n.k n.l n.r (merging_sides s a key n.k n.v n.l n.r (shrinking_node s a key t h n)) in
    subst (λ (x : Tree). IsRebuilt (IsIn x) (9 * height x) s u link (without_node key x)) (sym n.is)
    (rw on (record {
      changes = changes_more (λ c. IsIn n.l c ⊎ IsIn n.r c) (IsIn (Node a n.k n.v n.l n.r)) (9 + 9 * height n.r) (9 * height (Node a n.k n.v n.l n.r)) s u built.changes (λ c m. inr m) (omega arith);
      stands = built.stands;
    }))

module _ (s u : Space) (a key link : ℕ) where
  kept_of : (t : Tree) (c : ℕ) → IsIn (without_node key t) c → IsIn t c
  kept_of t c h = EachNode-in (IsIn t) (without_node key t) c (without_node-each (λ d j i. IsIn t d) key t (each_in (IsIn t) t (λ d m. m))) h

  shrunk_left_parts : (k v : ℕ) (l r : Tree) → (h : IsShrinking s a key (Node a k v l r)) → key < k → Shrinks s u (s.word (a + 3)) key link → AreParts u a link (s.word (a + 4)) k v (without_node key l) r
  shrunk_left_parts k v l r h less shrinks =
      let apart = standing_apart s a (Node a k v l r) h.stands h.ordered in
      let built = shrinks l (shrinking_left s a key k v l r less h) in
      left_rebuilt s u (IsIn l) (9 * height l) a a k v l r h.stands h.ordered built.changes
      (λ c m. block_own s.land l c h.stands.own.1 m) apart.0 link (without_node key l) built.stands (λ c x m. apart.2 c m x)
      (without_node-each (λ d j i. j < k) key l h.ordered.0) (without_node-ordered key l h.ordered.2)

  shrunk_right_parts : (k v : ℕ) (l r : Tree) → (h : IsShrinking s a key (Node a k v l r)) → k < key → Shrinks s u (s.word (a + 4)) key link → AreParts u a (s.word (a + 3)) link k v l (without_node key r)
  shrunk_right_parts k v l r h more shrinks =
      let apart = standing_apart s a (Node a k v l r) h.stands h.ordered in
      let built = shrinks r (shrinking_right s a key k v l r more h) in
      right_rebuilt s u (IsIn r) (9 * height r) a a k v l r h.stands h.ordered built.changes
      (λ c m. block_own s.land r c h.stands.own.2 m) apart.1 link (without_node key r) built.stands (λ c x m. apart.2 c x m)
      (without_node-each (λ d j i. k < j) key r h.ordered.1) (without_node-ordered key r h.ordered.3)

  pub shrink_left-parts : 0 < a → CanShrink s a key → key < s.word (a + 1) → Shrinks s u (s.word (a + 3)) key link → HasParts u a link (s.word (a + 4))
  shrink_left-parts positive h less shrinks =
      let n = node_at s a h.tree h.is.stands positive in
      let is = n.stands.laid.0.key in
      record { k = n.k; v = n.v; l = without_node key n.l; r = n.r; are = shrunk_left_parts n.k n.v n.l n.r (shrinking_node s a key h.tree h.is n) (omega (arith, less, is)) shrinks }

  pub shrink_right-parts : 0 < a → CanShrink s a key → s.word (a + 1) < key → Shrinks s u (s.word (a + 4)) key link → HasParts u a (s.word (a + 3)) link
  shrink_right-parts positive h more shrinks =
      let n = node_at s a h.tree h.is.stands positive in
      let is = n.stands.laid.0.key in
      record { k = n.k; v = n.v; l = n.l; r = without_node key n.r; are = shrunk_right_parts n.k n.v n.l n.r (shrinking_node s a key h.tree h.is n) (omega (arith, more, is)) shrinks }

  module _ (w : Space) (above : ℕ) (positive : 0 < a) where
    pub shrink_left-shrinks : key < s.word (a + 1) → Shrinks s u (s.word (a + 3)) key link → Builds joined 9 u w a link (s.word (a + 4)) above → Shrinks s w a key above
    shrink_left-shrinks less shrinks builds t h =
        let n = node_at s a t h.stands positive in
        let is = n.stands.laid.0.key in
        let under : key < n.k = omega (arith, less, is) in
        let g = shrinking_node s a key t h n in
        let off : (key == n.k) ≡ false = grind (arith, nat_tests) in
        let on : nat_lt key n.k ≡ true = grind (arith, nat_tests) in
        let built = shrinks n.l (shrinking_left s a key n.k n.v n.l n.r under g) in
        subst (λ (x : Tree). IsRebuilt (IsIn x) (9 * height x) s w above (without_node key x)) (sym n.is)
        (rw (off, on) (joined_then s u w (IsIn n.l) (IsIn (Node a n.k n.v n.l n.r)) (9 * height n.l) (9 * height (Node a n.k n.v n.l n.r))
        a link (s.word (a + 4)) above n.k n.v (without_node key n.l) n.r built.changes builds (shrunk_left_parts n.k n.v n.l n.r g under shrinks)
        (λ c m. inr (inl m)) (inl refl) (λ c m. inr (inl (kept_of n.l c m))) (λ c m. inr (inr m)) (omega arith)))

    pub shrink_right-shrinks : s.word (a + 1) < key → Shrinks s u (s.word (a + 4)) key link → Builds joined 9 u w a (s.word (a + 3)) link above → Shrinks s w a key above
    shrink_right-shrinks more shrinks builds t h =
        let n = node_at s a t h.stands positive in
        let is = n.stands.laid.0.key in
        let over : n.k < key = omega (arith, more, is) in
        let g = shrinking_node s a key t h n in
        let off : (key == n.k) ≡ false = grind (arith, nat_tests) in
        let on : nat_lt key n.k ≡ false = grind (arith, nat_tests) in
        let built = shrinks n.r (shrinking_right s a key n.k n.v n.l n.r over g) in
        subst (λ (x : Tree). IsRebuilt (IsIn x) (9 * height x) s w above (without_node key x)) (sym n.is)
        (rw (off, on) (joined_then s u w (IsIn n.r) (IsIn (Node a n.k n.v n.l n.r)) (9 * height n.r) (9 * height (Node a n.k n.v n.l n.r))
        a (s.word (a + 3)) link above n.k n.v n.l (without_node key n.r) built.changes builds (shrunk_right_parts n.k n.v n.l n.r g over shrinks)
        (λ c m. inr (inr m)) (inl refl) (λ c m. inr (inl m)) (λ c m. inr (inr (kept_of n.r c m))) (omega arith)))
