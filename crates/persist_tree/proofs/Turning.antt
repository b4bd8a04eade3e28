-- The nodes of a turn are hung one after the other.
use Rattle.std.proofs.Common.{◌≡◌, ◌≢◌, inl, inr, ℕ, ◌+◌, ◌<◌, ◌^◌, ◌++◌, ◌∷◌, false, ◌==◌, refl, sym, subst, ◌∙◌, ap, arith}
use Rattle.std.proofs.lemmas.Bool.Decides.{nat_tests}
use Rattle.lane_traits.specs.Space.{Land, Space, IsOwn, IsBlock}
use Rattle.region_layout.specs.TreeMap.{Tree, Leaf, Node, top, height, AreOwn, in_order}
use Rattle.persist_tree.specs.Trees.{IsIn, IsApart}
use Rattle.persist_tree.specs.Changes.{Changes, StandsAt, IsRebuilt, AreParts, HasParts, HasTree, HasNode, Hangs, stored_height}
use Rattle.persist_tree.proofs.Joining.{turned_left-order, turned_right-order}
use Rattle.persist_tree.proofs.Counting.{apart_same}
use Rattle.persist_tree.proofs.Framing.{changes_then, changes_more, word_kept, stands_kept}

-- ---- what stands in a space stands in an equal one

pub stands_in : (s u : Space) (a b : ℕ) (t : Tree) → u ≡ s → b ≡ a → StandsAt s a t → StandsAt u b t
stands_in s u a b t same here h = subst (λ (y : Space). StandsAt y b t) (sym same) (subst (λ x. StandsAt s x t) (sym here) h)

pub tree_in : (s u : Space) (a b : ℕ) (t : Tree) → u ≡ s → b ≡ a → StandsAt s a t → HasTree u b
tree_in s u a b t same here h = record { tree = t; stands = stands_in s u a b t same here h }

pub parts_in : (s u : Space) (b left right x y : ℕ) → u ≡ s → x ≡ left → y ≡ right → HasParts s b left right → HasParts u b x y
parts_in s u b left right x y same is_left is_right h =
    subst (λ (z : Space). HasParts z b x y) (sym same) (subst (λ z. HasParts s b z y) (sym is_left) (subst (λ z. HasParts s b left z) (sym is_right) h))

pub hangs_in : (s t u : Space) (b left right x y : ℕ) → t ≡ s → x ≡ left → y ≡ right → Hangs t u b x y → Hangs s u b left right
hangs_in s t u b left right x y same is_left is_right h =
    subst (λ (z : Space). Hangs z u b left right) same (subst (λ z. Hangs t u b z right) is_left (subst (λ z. Hangs t u b x z) is_right h))

-- ---- reads

pub top_fits : (land : Land) (t : Tree) → AreOwn land t → top t < 2 ^ 32
top_fits land Leaf own = omega arith
top_fits land (Node b k v l r) own = let f = own.0.0.fits in omega (arith, f)

pub stored_height-is : (s : Space) (a : ℕ) (t : Tree) → StandsAt s a t → stored_height s.word a ≡ height t
stored_height-is s a Leaf h = let e = h.top_is in rw (e) refl
stored_height-is s a (Node b k v l r) h =
    let positive = h.own.0.0.positive in
    let off : (b == 0) ≡ false = grind (arith, nat_tests) in
    let e = h.top_is in
    let is = h.laid.0.height_is in
    rw (e, off) is

-- the node at an address that isn't 0
pub record IsNodeAt (s : Space) (a : ℕ) (t : Tree) : Type 0 where
  pub k : ℕ
  pub v : ℕ
  pub l : Tree
  pub r : Tree
  pub is : t ≡ Node a k v l r
  pub stands : StandsAt s a (Node a k v l r)

pub node_at : (s : Space) (a : ℕ) (t : Tree) → StandsAt s a t → 0 < a → IsNodeAt s a t
node_at s a Leaf h positive = absurd (let e = h.top_is in omega (arith, e, positive))
node_at s a (Node b k v l r) h positive = subst (λ x. StandsAt s x (Node b k v l r) → IsNodeAt s x (Node b k v l r)) (sym h.top_is)
    (λ (g : StandsAt s b (Node b k v l r)). record { k = k; v = v; l = l; r = r; is = refl; stands = g }) h

pub has_node : (s : Space) (a : ℕ) → HasTree s a → 0 < a → HasNode s a
has_node s a h positive = let n = node_at s a h.tree h.stands positive in record { k = n.k; v = n.v; l = n.l; r = n.r; stands = n.stands }

pub on_left : (s : Space) (a b k v : ℕ) (l r : Tree) → StandsAt s a (Node b k v l r) → StandsAt s (s.word (b + 3)) l
on_left s a b k v l r h = record { top_is = h.laid.0.left_is; laid = h.laid.1; own = h.own.1 }

pub on_right : (s : Space) (a b k v : ℕ) (l r : Tree) → StandsAt s a (Node b k v l r) → StandsAt s (s.word (b + 4)) r
on_right s a b k v l r h = record { top_is = h.laid.0.right_is; laid = h.laid.2; own = h.own.2 }

-- ---- a block, its key and value after another was hung

module _ (s u : Space) (b : ℕ) (own_b : IsOwn s.land b) (h : Changes (λ d. d ≡ b) 3 s u) where
  here : (d : ℕ) → d ≡ b → IsBlock s.land d
  here d e = subst (IsBlock s.land) (sym e) own_b.0

  pub own_beside : (c : ℕ) → IsOwn s.land c → IsOwn u.land c
  own_beside c own = subst (λ (y : Land). IsOwn y c) (sym h.land) own

  pub word_beside : (c i : ℕ) → IsOwn s.land c → c ≢ b → i < 16 → u.word (c + i) ≡ s.word (c + i)
  word_beside c i own apart li = word_kept (λ d. d ≡ b) 3 s u c i h here own.0 apart li

  pub tree_beside : (a : ℕ) (t : Tree) → (IsIn t b → ⊥) → StandsAt s a t → StandsAt u a t
  tree_beside a t out stands = stands_kept (λ d. d ≡ b) 3 s u a t h here (λ c m e. out (subst (IsIn t) e m)) stands

-- ---- one turn to the right

module _ (s : Space) (b c right k v j u : ℕ) (ll lr r : Tree) (h : AreParts s b c right k v (Node c j u ll lr) r) where
  right_apart : IsApart (Node c j u ll (Node b k v lr r))
  right_apart = apart_same (Node b k v (Node c j u ll lr) r) (Node c j u ll (Node b k v lr r)) (turned_right-order (λ x y z. x) (Node b k v (Node c j u ll lr) r)) h.apart

  pub right_first : AreParts s b (s.word (c + 4)) right k v lr r
  right_first = record { own = h.own; key = h.key; value = h.value; on_left = on_right s c c j u ll lr h.on_left; on_right = h.on_right; apart = right_apart.4 }

  pub right_second : (u₁ : Space) → IsRebuilt (λ d. d ≡ b) 3 s u₁ b (Node b k v lr r) → AreParts u₁ c (s.word (c + 3)) b j u ll (Node b k v lr r)
  right_second u₁ first = record {
    own = own_beside s u₁ b h.own first.changes c h.on_left.own.0;
    key = word_beside s u₁ b h.own first.changes c 1 h.on_left.own.0 (λ e. right_apart.1 (inl e)) (omega arith) ∙ h.on_left.laid.0.key;
    value = word_beside s u₁ b h.own first.changes c 2 h.on_left.own.0 (λ e. right_apart.1 (inl e)) (omega arith) ∙ h.on_left.laid.0.value;
    on_left = tree_beside s u₁ b h.own first.changes (s.word (c + 3)) ll (λ m. right_apart.2 b m (inl refl)) (on_left s c c j u ll lr h.on_left);
    on_right = first.stands;
    apart = right_apart;
  }

  pub right_whole : (u₁ u₂ : Space) → Hangs s u₁ b (s.word (c + 4)) right → Hangs u₁ u₂ c (s.word (c + 3)) b
      → IsRebuilt (IsIn (Node b k v (Node c j u ll lr) r)) 9 s u₂ c (Node c j u ll (Node b k v lr r))
  right_whole u₁ u₂ hang₁ hang₂ =
      let first = hang₁ k v lr r right_first in
      let second = hang₂ j u ll (Node b k v lr r) (right_second u₁ first) in
      record {
        changes = changes_more (IsIn (Node b k v (Node c j u ll lr) r)) (IsIn (Node b k v (Node c j u ll lr) r)) 6 9 s u₂
            (changes_then (λ d. d ≡ b) (λ d. d ≡ c) (IsIn (Node b k v (Node c j u ll lr) r)) 3 3 s u₁ u₂ first.changes second.changes (λ d e. inl e) (λ d e. inr (inl (inl e))))
            (λ d m. m) (omega arith);
        stands = second.stands;
      }

-- ---- one turn to the left

module _ (s : Space) (b c left k v j u : ℕ) (l rl rr : Tree) (h : AreParts s b left c k v l (Node c j u rl rr)) where
  left_apart : IsApart (Node c j u (Node b k v l rl) rr)
  left_apart = apart_same (Node b k v l (Node c j u rl rr)) (Node c j u (Node b k v l rl) rr) (turned_left-order (λ x y z. x) (Node b k v l (Node c j u rl rr))) h.apart

  pub left_first : AreParts s b left (s.word (c + 3)) k v l rl
  left_first = record { own = h.own; key = h.key; value = h.value; on_left = h.on_left; on_right = on_left s c c j u rl rr h.on_right; apart = left_apart.3 }

  pub left_second : (u₁ : Space) → IsRebuilt (λ d. d ≡ b) 3 s u₁ b (Node b k v l rl) → AreParts u₁ c b (s.word (c + 4)) j u (Node b k v l rl) rr
  left_second u₁ first = record {
    own = own_beside s u₁ b h.own first.changes c h.on_right.own.0;
    key = word_beside s u₁ b h.own first.changes c 1 h.on_right.own.0 (λ e. left_apart.0 (inl e)) (omega arith) ∙ h.on_right.laid.0.key;
    value = word_beside s u₁ b h.own first.changes c 2 h.on_right.own.0 (λ e. left_apart.0 (inl e)) (omega arith) ∙ h.on_right.laid.0.value;
    on_left = first.stands;
    on_right = tree_beside s u₁ b h.own first.changes (s.word (c + 4)) rr (λ m. left_apart.2 b (inl refl) m) (on_right s c c j u rl rr h.on_right);
    apart = left_apart;
  }

  pub left_whole : (u₁ u₂ : Space) → Hangs s u₁ b left (s.word (c + 3)) → Hangs u₁ u₂ c b (s.word (c + 4))
      → IsRebuilt (IsIn (Node b k v l (Node c j u rl rr))) 9 s u₂ c (Node c j u (Node b k v l rl) rr)
  left_whole u₁ u₂ hang₁ hang₂ =
      let first = hang₁ k v l rl left_first in
      let second = hang₂ j u (Node b k v l rl) rr (left_second u₁ first) in
      record {
        changes = changes_more (IsIn (Node b k v l (Node c j u rl rr))) (IsIn (Node b k v l (Node c j u rl rr))) 6 9 s u₂
            (changes_then (λ d. d ≡ b) (λ d. d ≡ c) (IsIn (Node b k v l (Node c j u rl rr))) 3 3 s u₁ u₂ first.changes second.changes (λ d e. inl e) (λ d e. inr (inr (inl e))))
            (λ d m. m) (omega arith);
        stands = second.stands;
      }

-- ---- two turns: to the right in the end

module _ (s : Space) (b c d right k v j u i w : ℕ) (ll m n r : Tree) (h : AreParts s b c right k v (Node c j u ll (Node d i w m n)) r) where
  twice_right_apart : IsApart (Node d i w (Node c j u ll m) (Node b k v n r))
  twice_right_apart = apart_same (Node b k v (Node c j u ll (Node d i w m n)) r) (Node d i w (Node c j u ll m) (Node b k v n r))
      (turned_right-order (λ x y z. x) (Node b k v (Node d i w (Node c j u ll m) n) r) ∙ ap (λ xs. xs ++ b ∷ in_order (λ x y z. x) r) (turned_left-order (λ x y z. x) (Node c j u ll (Node d i w m n)))) h.apart

  twice_right_inner : StandsAt s (s.word (c + 4)) (Node d i w m n)
  twice_right_inner = on_right s c c j u ll (Node d i w m n) h.on_left

  pub twice_right_first : AreParts s c (s.word (c + 3)) (s.word (d + 3)) j u ll m
  twice_right_first = record {
    own = h.on_left.own.0;
    key = h.on_left.laid.0.key;
    value = h.on_left.laid.0.value;
    on_left = on_left s c c j u ll (Node d i w m n) h.on_left;
    on_right = on_left s (s.word (c + 4)) d i w m n twice_right_inner;
    apart = twice_right_apart.3;
  }

  pub twice_right_second : (u₁ : Space) → IsRebuilt (λ e. e ≡ c) 3 s u₁ c (Node c j u ll m) → AreParts u₁ b (s.word (d + 4)) right k v n r
  twice_right_second u₁ first = record {
    own = own_beside s u₁ c h.on_left.own.0 first.changes b h.own;
    key = word_beside s u₁ c h.on_left.own.0 first.changes b 1 h.own (λ e. h.apart.0 (inl e)) (omega arith) ∙ h.key;
    value = word_beside s u₁ c h.on_left.own.0 first.changes b 2 h.own (λ e. h.apart.0 (inl e)) (omega arith) ∙ h.value;
    on_left = tree_beside s u₁ c h.on_left.own.0 first.changes (s.word (d + 4)) n (λ x. twice_right_apart.2 c (inl refl) (inr (inl x))) (on_right s (s.word (c + 4)) d i w m n twice_right_inner);
    on_right = tree_beside s u₁ c h.on_left.own.0 first.changes right r (λ x. twice_right_apart.2 c (inl refl) (inr (inr x))) h.on_right;
    apart = twice_right_apart.4;
  }

  pub twice_right_third : (u₁ u₂ : Space) → IsRebuilt (λ e. e ≡ c) 3 s u₁ c (Node c j u ll m) → IsRebuilt (λ e. e ≡ b) 3 u₁ u₂ b (Node b k v n r)
      → AreParts u₂ d c b i w (Node c j u ll m) (Node b k v n r)
  twice_right_third u₁ u₂ first second =
      let own_b = own_beside s u₁ c h.on_left.own.0 first.changes b h.own in
      let own_d = own_beside s u₁ c h.on_left.own.0 first.changes d twice_right_inner.own.0 in
      record {
        own = own_beside u₁ u₂ b own_b second.changes d own_d;
        key = word_beside u₁ u₂ b own_b second.changes d 1 own_d (λ e. twice_right_apart.1 (inl e)) (omega arith)
            ∙ word_beside s u₁ c h.on_left.own.0 first.changes d 1 twice_right_inner.own.0 (λ e. twice_right_apart.0 (inl e)) (omega arith) ∙ twice_right_inner.laid.0.key;
        value = word_beside u₁ u₂ b own_b second.changes d 2 own_d (λ e. twice_right_apart.1 (inl e)) (omega arith)
            ∙ word_beside s u₁ c h.on_left.own.0 first.changes d 2 twice_right_inner.own.0 (λ e. twice_right_apart.0 (inl e)) (omega arith) ∙ twice_right_inner.laid.0.value;
        on_left = tree_beside u₁ u₂ b own_b second.changes c (Node c j u ll m) (λ x. twice_right_apart.2 b x (inl refl)) first.stands;
        on_right = second.stands;
        apart = twice_right_apart;
      }

  pub twice_right_whole : (u₁ u₂ u₃ : Space) → Hangs s u₁ c (s.word (c + 3)) (s.word (d + 3)) → Hangs u₁ u₂ b (s.word (d + 4)) right → Hangs u₂ u₃ d c b
      → IsRebuilt (IsIn (Node b k v (Node c j u ll (Node d i w m n)) r)) 9 s u₃ d (Node d i w (Node c j u ll m) (Node b k v n r))
  twice_right_whole u₁ u₂ u₃ hang₁ hang₂ hang₃ =
      let first = hang₁ j u ll m twice_right_first in
      let second = hang₂ k v n r (twice_right_second u₁ first) in
      let third = hang₃ i w (Node c j u ll m) (Node b k v n r) (twice_right_third u₁ u₂ first second) in
      record {
        changes = changes_then (IsIn (Node b k v (Node c j u ll (Node d i w m n)) r)) (λ e. e ≡ d) (IsIn (Node b k v (Node c j u ll (Node d i w m n)) r)) 6 3 s u₂ u₃
            (changes_then (λ e. e ≡ c) (λ e. e ≡ b) (IsIn (Node b k v (Node c j u ll (Node d i w m n)) r)) 3 3 s u₁ u₂ first.changes second.changes (λ x e. inr (inl (inl e))) (λ x e. inl e))
            third.changes (λ x e. e) (λ x e. inr (inl (inr (inr (inl e)))));
        stands = third.stands;
      }

-- ---- two turns: to the left in the end

module _ (s : Space) (b c d left k v j u i w : ℕ) (l m n rr : Tree) (h : AreParts s b left c k v l (Node c j u (Node d i w m n) rr)) where
  twice_left_apart : IsApart (Node d i w (Node b k v l m) (Node c j u n rr))
  twice_left_apart = apart_same (Node b k v l (Node c j u (Node d i w m n) rr)) (Node d i w (Node b k v l m) (Node c j u n rr))
      (turned_left-order (λ x y z. x) (Node b k v l (Node d i w m (Node c j u n rr))) ∙ ap (λ xs. in_order (λ x y z. x) l ++ b ∷ xs) (turned_right-order (λ x y z. x) (Node c j u (Node d i w m n) rr))) h.apart

  twice_left_inner : StandsAt s (s.word (c + 3)) (Node d i w m n)
  twice_left_inner = on_left s c c j u (Node d i w m n) rr h.on_right

  pub twice_left_first : AreParts s c (s.word (d + 4)) (s.word (c + 4)) j u n rr
  twice_left_first = record {
    own = h.on_right.own.0;
    key = h.on_right.laid.0.key;
    value = h.on_right.laid.0.value;
    on_left = on_right s (s.word (c + 3)) d i w m n twice_left_inner;
    on_right = on_right s c c j u (Node d i w m n) rr h.on_right;
    apart = twice_left_apart.4;
  }

  pub twice_left_second : (u₁ : Space) → IsRebuilt (λ e. e ≡ c) 3 s u₁ c (Node c j u n rr) → AreParts u₁ b left (s.word (d + 3)) k v l m
  twice_left_second u₁ first = record {
    own = own_beside s u₁ c h.on_right.own.0 first.changes b h.own;
    key = word_beside s u₁ c h.on_right.own.0 first.changes b 1 h.own (λ e. h.apart.1 (inl e)) (omega arith) ∙ h.key;
    value = word_beside s u₁ c h.on_right.own.0 first.changes b 2 h.own (λ e. h.apart.1 (inl e)) (omega arith) ∙ h.value;
    on_left = tree_beside s u₁ c h.on_right.own.0 first.changes left l (λ x. twice_left_apart.2 c (inr (inl x)) (inl refl)) h.on_left;
    on_right = tree_beside s u₁ c h.on_right.own.0 first.changes (s.word (d + 3)) m (λ x. twice_left_apart.2 c (inr (inr x)) (inl refl)) (on_left s (s.word (c + 3)) d i w m n twice_left_inner);
    apart = twice_left_apart.3;
  }

  pub twice_left_third : (u₁ u₂ : Space) → IsRebuilt (λ e. e ≡ c) 3 s u₁ c (Node c j u n rr) → IsRebuilt (λ e. e ≡ b) 3 u₁ u₂ b (Node b k v l m)
      → AreParts u₂ d b c i w (Node b k v l m) (Node c j u n rr)
  twice_left_third u₁ u₂ first second =
      let own_b = own_beside s u₁ c h.on_right.own.0 first.changes b h.own in
      let own_d = own_beside s u₁ c h.on_right.own.0 first.changes d twice_left_inner.own.0 in
      record {
        own = own_beside u₁ u₂ b own_b second.changes d own_d;
        key = word_beside u₁ u₂ b own_b second.changes d 1 own_d (λ e. twice_left_apart.0 (inl e)) (omega arith)
            ∙ word_beside s u₁ c h.on_right.own.0 first.changes d 1 twice_left_inner.own.0 (λ e. twice_left_apart.1 (inl e)) (omega arith) ∙ twice_left_inner.laid.0.key;
        value = word_beside u₁ u₂ b own_b second.changes d 2 own_d (λ e. twice_left_apart.0 (inl e)) (omega arith)
            ∙ word_beside s u₁ c h.on_right.own.0 first.changes d 2 twice_left_inner.own.0 (λ e. twice_left_apart.1 (inl e)) (omega arith) ∙ twice_left_inner.laid.0.value;
        on_left = second.stands;
        on_right = tree_beside u₁ u₂ b own_b second.changes c (Node c j u n rr) (λ x. twice_left_apart.2 b (inl refl) x) first.stands;
        apart = twice_left_apart;
      }

  pub twice_left_whole : (u₁ u₂ u₃ : Space) → Hangs s u₁ c (s.word (d + 4)) (s.word (c + 4)) → Hangs u₁ u₂ b left (s.word (d + 3)) → Hangs u₂ u₃ d b c
      → IsRebuilt (IsIn (Node b k v l (Node c j u (Node d i w m n) rr))) 9 s u₃ d (Node d i w (Node b k v l m) (Node c j u n rr))
  twice_left_whole u₁ u₂ u₃ hang₁ hang₂ hang₃ =
      let first = hang₁ j u n rr twice_left_first in
      let second = hang₂ k v l m (twice_left_second u₁ first) in
      let third = hang₃ i w (Node b k v l m) (Node c j u n rr) (twice_left_third u₁ u₂ first second) in
      record {
        changes = changes_then (IsIn (Node b k v l (Node c j u (Node d i w m n) rr))) (λ e. e ≡ d) (IsIn (Node b k v l (Node c j u (Node d i w m n) rr))) 6 3 s u₂ u₃
            (changes_then (λ e. e ≡ c) (λ e. e ≡ b) (IsIn (Node b k v l (Node c j u (Node d i w m n) rr))) 3 3 s u₁ u₂ first.changes second.changes (λ x e. inr (inr (inl e))) (λ x e. inl e))
            third.changes (λ x e. e) (λ x e. inr (inr (inr (inl (inl e)))));
        stands = third.stands;
      }
