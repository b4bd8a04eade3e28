-- What writes in some blocks leave of the rest.
use Rattle.std.proofs.Common.{◌≡◌, ◌≢◌, inl, inr, ℕ, ◌+◌, ◌*◌, ◌<◌, ◌≤◌, true, false, ◌==◌, max, refl, sym, subst, ◌∙◌, ap, arith}
use Rattle.std.proofs.lemmas.Bool.Decides.{nat_tests}
use Rattle.persist_model.specs.Region.{Words}
use Rattle.lane_traits.specs.Space.{Land, Space, IsOwn, IsBlock, put_word, written}
use Rattle.region_layout.specs.TreeMap.{Tree, Leaf, Node, top, height, IsNode, IsLaid, EachNode, AreOwn, AreBelow, AreAbove, IsOrdered}
use Rattle.persist_tree.specs.Trees.{IsIn, IsApart}
use Rattle.persist_tree.specs.Changes.{Changes, StandsAt, IsRebuilt, AreParts}
use Rattle.persist_tree.proofs.Nodes.{EachNode-in}

apart_by_number : (h m n i j : ℕ) → m ≢ n → i < 16 → j < 16 → h + 16 * m + i ≢ h + 16 * n + j
apart_by_number h m n i j ne li lj = λ e. ne (omega (arith, e, li, lj))

-- words of different blocks are different
pub blocks_apart : (land : Land) (b c i j : ℕ) → IsBlock land b → IsBlock land c → b ≢ c → i < 16 → j < 16 → b + i ≢ c + j
blocks_apart land b c i j hb hc ne li lj = λ e.
    let pb = hb.place in
    let pc = hc.place in
    apart_by_number land.heap hb.number hc.number i j (λ same. ne (pb ∙ ap (λ n. land.heap + 16 * n) same ∙ sym pc)) li lj
    (ap (λ x. x + i) (sym pb) ∙ e ∙ ap (λ x. x + j) pc)

pub put_same : (a v : ℕ) (w : Words) → put_word a v w a ≡ v
put_same a v w = let on : (a == a) ≡ true = grind (arith, nat_tests) in rw on refl

pub put_other : (a v x : ℕ) (w : Words) → x ≢ a → put_word a v w x ≡ w x
put_other a v x w ne = let off : (x == a) ≡ false = grind (arith, nat_tests) in rw off refl

-- where the words of its blocks stay, the tree stays
pub laid_kept : (w u : Words) (t : Tree) → ((c i : ℕ) → IsIn t c → i < 16 → u (c + i) ≡ w (c + i)) → IsLaid w t → IsLaid u t
laid_kept w u Leaf same laid = laid
laid_kept w u (Node b k v l r) same laid = (
  record {
    key = same b 1 (inl refl) (omega arith) ∙ laid.0.key;
    value = same b 2 (inl refl) (omega arith) ∙ laid.0.value;
    left_is = same b 3 (inl refl) (omega arith) ∙ laid.0.left_is;
    right_is = same b 4 (inl refl) (omega arith) ∙ laid.0.right_is;
    height_is = same b 5 (inl refl) (omega arith) ∙ laid.0.height_is;
  },
  laid_kept w u l (λ c i h. same c i (inr (inl h))) laid.1,
  laid_kept w u r (λ c i h. same c i (inr (inr h))) laid.2,
)

-- ---- a block's key tells on which side it is

pub laid_keys : (w : Words) (t : Tree) → IsLaid w t → EachNode (λ b k v. w (b + 1) ≡ k) t
laid_keys w Leaf laid = tt
laid_keys w (Node b k v l r) laid = (laid.0.key, laid_keys w l laid.1, laid_keys w r laid.2)

pub key_below : (w : Words) (t : Tree) (m c : ℕ) → EachNode (λ b k v. w (b + 1) ≡ k) t → AreBelow m t → IsIn t c → w (c + 1) < m
key_below w Leaf m c keys below h = absurd h
key_below w (Node b k v l r) m c keys below (inl e) = subst (λ x. w (x + 1) < m) (sym e) (subst (λ x. x < m) (sym keys.0) below.0)
key_below w (Node b k v l r) m c keys below (inr (inl h)) = key_below w l m c keys.1 below.1 h
key_below w (Node b k v l r) m c keys below (inr (inr h)) = key_below w r m c keys.2 below.2 h

pub key_above : (w : Words) (t : Tree) (m c : ℕ) → EachNode (λ b k v. w (b + 1) ≡ k) t → AreAbove m t → IsIn t c → m < w (c + 1)
key_above w Leaf m c keys above h = absurd h
key_above w (Node b k v l r) m c keys above (inl e) = subst (λ x. m < w (x + 1)) (sym e) (subst (λ x. m < x) (sym keys.0) above.0)
key_above w (Node b k v l r) m c keys above (inr (inl h)) = key_above w l m c keys.1 above.1 h
key_above w (Node b k v l r) m c keys above (inr (inr h)) = key_above w r m c keys.2 above.2 h

-- so the order of the keys keeps the blocks apart
pub apart_of : (w : Words) (t : Tree) → EachNode (λ b k v. w (b + 1) ≡ k) t → IsOrdered t → IsApart t
apart_of w Leaf keys ordered = tt
apart_of w (Node b k v l r) keys ordered = (
  λ h. (let here = keys.0 in let less = key_below w l k b keys.1 ordered.0 h in omega (arith, here, less)),
  λ h. (let here = keys.0 in let more = key_above w r k b keys.2 ordered.1 h in omega (arith, here, more)),
  λ c hl hr. (let less = key_below w l k c keys.1 ordered.0 hl in let more = key_above w r k c keys.2 ordered.1 hr in omega (arith, less, more)),
  apart_of w l keys.1 ordered.2,
  apart_of w r keys.2 ordered.3,
)

-- ---- changes

pub changes_none : (A : ℕ → Type 0) (s u : Space) → u ≡ s → Changes A 0 s u
changes_none A s u same = subst (λ (y : Space). Changes A 0 s y) (sym same) (record { land = refl; spare = refl; elsewhere = λ a out. refl; writes = omega arith })

pub changes_written : (A : ℕ → Type 0) (s : Space) (b i x : ℕ) → A b → 0 < i → i < 16 → Changes A 1 s (written (b + i) x s)
changes_written A s b i x here above below = record {
  land = refl;
  spare = refl;
  elsewhere = λ a out. put_other (b + i) x a s.word (out b i here above below);
  writes = omega arith;
}

pub changes_then : (A B C : ℕ → Type 0) (n m : ℕ) (s u w : Space) → Changes A n s u → Changes B m u w → ((c : ℕ) → A c → C c) → ((c : ℕ) → B c → C c) → Changes C (n + m) s w
changes_then A B C n m s u w first second of_a of_b = record {
  land = second.land ∙ first.land;
  spare = second.spare ∙ first.spare;
  elsewhere = λ a out. second.elsewhere a (λ b i h. out b i (of_b b h)) ∙ first.elsewhere a (λ b i h. out b i (of_a b h));
  writes = let p = first.writes in let q = second.writes in omega (arith, p, q);
}

pub changes_more : (A C : ℕ → Type 0) (n m : ℕ) (s u : Space) → Changes A n s u → ((c : ℕ) → A c → C c) → n ≤ m → Changes C m s u
changes_more A C n m s u h of_a le = record {
  land = h.land;
  spare = h.spare;
  elsewhere = λ a out. h.elsewhere a (λ b i k. out b i (of_a b k));
  writes = let p = h.writes in omega (arith, p, le);
}

-- a word of another block
pub word_kept : (A : ℕ → Type 0) (n : ℕ) (s u : Space) (c i : ℕ) → Changes A n s u → ((d : ℕ) → A d → IsBlock s.land d) → IsBlock s.land c → (A c → ⊥) → i < 16
    → u.word (c + i) ≡ s.word (c + i)
word_kept A n s u c i h are block out li =
    h.elsewhere (c + i) (λ d j here above below. blocks_apart s.land c d i j block (are d here) (λ e. out (subst A (sym e) here)) li below)

pub own_kept : (A : ℕ → Type 0) (n : ℕ) (s u : Space) (t : Tree) → Changes A n s u → AreOwn s.land t → AreOwn u.land t
own_kept A n s u t h own = subst (λ (y : Land). AreOwn y t) (sym h.land) own

pub block_own : (land : Land) (t : Tree) (c : ℕ) → AreOwn land t → IsIn t c → IsOwn land c
block_own land t c own h = EachNode-in (IsOwn land) t c own h

-- a tree of other blocks
pub stands_kept : (A : ℕ → Type 0) (n : ℕ) (s u : Space) (a : ℕ) (t : Tree) → Changes A n s u → ((d : ℕ) → A d → IsBlock s.land d) → ((c : ℕ) → IsIn t c → A c → ⊥)
    → StandsAt s a t → StandsAt u a t
stands_kept A n s u a t h are apart stands = record {
  top_is = stands.top_is;
  laid = laid_kept s.word u.word t (λ c i m li. word_kept A n s u c i h are (block_own s.land t c stands.own m).0 (apart c m) li) stands.laid;
  own = own_kept A n s u t h stands.own;
}

-- ---- a block becomes a node

abbrev pub hung : Space → ℕ → ℕ → ℕ → ℕ → Space
hung s b left right h = written (b + 5) h (written (b + 4) right (written (b + 3) left s))

hung_changes : (s : Space) (b left right h : ℕ) → Changes (λ c. c ≡ b) 3 s (hung s b left right h)
hung_changes s b left right h = record {
  land = refl;
  spare = refl;
  elsewhere = λ a out. put_other (b + 5) h a (put_word (b + 4) right (put_word (b + 3) left s.word)) (out b 5 refl (omega arith) (omega arith))
      ∙ put_other (b + 4) right a (put_word (b + 3) left s.word) (out b 4 refl (omega arith) (omega arith))
      ∙ put_other (b + 3) left a s.word (out b 3 refl (omega arith) (omega arith));
  writes = omega arith;
}

hung_node : (s : Space) (b left right h k v : ℕ) → s.word (b + 1) ≡ k → s.word (b + 2) ≡ v → IsNode (hung s b left right h).word b k v left right h
hung_node s b left right h k v key value = record {
  key = low 1 (omega arith) ∙ key;
  value = low 2 (omega arith) ∙ value;
  left_is = put_other (b + 5) h (b + 3) (put_word (b + 4) right (put_word (b + 3) left s.word)) (λ e. omega (arith, e)) ∙ put_other (b + 4) right (b + 3) (put_word (b + 3) left s.word) (λ e. omega (arith, e)) ∙ put_same (b + 3) left s.word;
  right_is = put_other (b + 5) h (b + 4) (put_word (b + 4) right (put_word (b + 3) left s.word)) (λ e. omega (arith, e)) ∙ put_same (b + 4) right (put_word (b + 3) left s.word);
  height_is = put_same (b + 5) h (put_word (b + 4) right (put_word (b + 3) left s.word));
}
  where
    low : (i : ℕ) → i < 3 → (hung s b left right h).word (b + i) ≡ s.word (b + i)
    low i lt = put_other (b + 5) h (b + i) (put_word (b + 4) right (put_word (b + 3) left s.word)) (λ e. omega (arith, e, lt)) ∙ put_other (b + 4) right (b + i) (put_word (b + 3) left s.word) (λ e. omega (arith, e, lt)) ∙ put_other (b + 3) left (b + i) s.word (λ e. omega (arith, e, lt))

pub hung_is : (s : Space) (b left right k v : ℕ) (l r : Tree) → AreParts s b left right k v l r
    → IsRebuilt (λ c. c ≡ b) 3 s (hung s b left right (1 + max (height l) (height r))) b (Node b k v l r)
hung_is s b left right k v l r h = record {
  changes = hung_changes s b left right (1 + max (height l) (height r));
  stands = record {
    top_is = refl;
    laid = (
      subst (λ y. IsNode (hung s b left right (1 + max (height l) (height r))).word b k v y (top r) (1 + max (height l) (height r))) h.on_left.top_is
          (subst (λ y. IsNode (hung s b left right (1 + max (height l) (height r))).word b k v left y (1 + max (height l) (height r))) h.on_right.top_is (hung_node s b left right (1 + max (height l) (height r)) k v h.key h.value)),
      (stands_kept (λ c. c ≡ b) 3 s (hung s b left right (1 + max (height l) (height r))) left l (hung_changes s b left right (1 + max (height l) (height r))) here (λ c m e. h.apart.0 (subst (IsIn l) e m)) h.on_left).laid,
      (stands_kept (λ c. c ≡ b) 3 s (hung s b left right (1 + max (height l) (height r))) right r (hung_changes s b left right (1 + max (height l) (height r))) here (λ c m e. h.apart.1 (subst (IsIn r) e m)) h.on_right).laid,
    );
    own = (h.own, h.on_left.own, h.on_right.own);
  };
}
  where
    here : (d : ℕ) → d ≡ b → IsBlock s.land d
    here d e = subst (IsBlock s.land) (sym e) h.own.0
