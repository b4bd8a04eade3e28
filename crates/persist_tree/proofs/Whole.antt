-- The tree below the root block, as a map.
use Rattle.std.proofs.Common.{◌≡◌, ◌≢◌, ◌⊎◌, inl, inr, ℕ, ◌+◌, ◌*◌, ◌<◌, ◌≤◌, Bool, true, false, if◌then◌else◌, ◌==◌, nat_lt, max, Some, None, ◌∷◌, refl, sym, subst, ◌∙◌, ap, arith}
use Rattle.std.proofs.lemmas.Bool.Decides.{eqb_tells}
use Rattle.std.specs.Prelude.{is_none}
use Rattle.persist_model.specs.Region.{Words}
use Rattle.persist_model.specs.Records.{IsAmong}
use Rattle.persist_model.specs.Chain.{HasNoRepeats}
use Rattle.lane_traits.specs.Space.{Land, Space, IsOwn, IsBlock, IsDataWordOf, IsTaken, AreSpare, root_block, put_word, written, taken, given, with_owner}
use Rattle.region_layout.specs.FiniteMap.{FiniteMap, lookup, with_pair, without_key}
use Rattle.region_layout.specs.TreeMap.{Tree, Leaf, Node, top, height, IsNode, IsLaid, EachNode, AreOwn, blocks, IsTree}
use Rattle.persist_tree.specs.Trees.{IsIn, IsApart, IsAbsent, block_of, with_node, with_value, without_node}
use Rattle.persist_tree.specs.Changes.{StandsAt, IsRebuilt}
use Rattle.persist_tree.specs.Below.{IsGrowing, CanGrow, Grows, CanShrink, Shrinks}
use Rattle.persist_tree.specs.Calls.{Holds, HoldsMap, needed, KeepsBlocks, GivesOne, KeepsOthers, WritesFew}
use Rattle.persist_tree.specs.Located.{Locates, CanInsert, IsInserted, Inserts}
use Rattle.persist_tree.proofs.Nodes.{EachNode-weaker, EachNode-in, each_in, in_blocks, of_blocks}
use Rattle.persist_tree.proofs.Balancing.{with_node-grown, without_node-shrunk}
use Rattle.persist_tree.proofs.Puts.{with_node-each, with_node-in, with_node-entries, with_node-ordered, none_absent, absent_none, found_in, found_value, with_value-top, with_value-height, with_value-balanced, with_value-each, with_value-blocks, with_value-entries, with_value-ordered}
use Rattle.persist_tree.proofs.Removals.{without_node-each, without_node-in, without_node-entries, without_node-ordered, without_node-absent}
use Rattle.persist_tree.proofs.Counting.{absent_of, not_among, blocks-once}
use Rattle.persist_tree.proofs.Framing.{blocks_apart, put_same, put_other, laid_kept, laid_keys, block_own}
use Rattle.persist_tree.proofs.Maps.{without_missing}
use Rattle.persist_tree.proofs.Rebuilding.{standing_apart}

-- ---- parts of a whole tree

pub whole_stands : (s : Space) (root : ℕ) (t : Tree) → IsTree s.land s.word root t → StandsAt s (s.word (root + 1)) t
whole_stands s root t h = record { top_is = h.top_is; laid = h.laid; own = h.own }

pub root_out : (land : Land) (w : Words) (root : ℕ) (t : Tree) → IsTree land w root t → IsIn t root → ⊥
root_out land w root t h m = not_among root (blocks t) h.once.0 (in_blocks t root m)

pub once_of : (root : ℕ) (t : Tree) → (IsIn t root → ⊥) → IsApart t → HasNoRepeats (root ∷ blocks t)
once_of root t out apart = (absent_of root (blocks t) (λ m. out (of_blocks t root m)), blocks-once t apart)

pub reached : (land : Land) (w : Words) (root : ℕ) (t : Tree) (b : ℕ) → IsTree land w root t → IsOwn land b → (b ≡ root) ⊎ IsIn t b
reached land w root t b h own = elim (h.all b own) [ inl e ↦ inl e | inr m ↦ inr (of_blocks t b m) ]

pub among_of : (root : ℕ) (t : Tree) (b : ℕ) → (b ≡ root) ⊎ IsIn t b → IsAmong (root ∷ blocks t) b
among_of root t b (inl e) = inl e
among_of root t b (inr m) = inr (in_blocks t b m)

positive_blocks : (land : Land) (t : Tree) → AreOwn land t → EachNode (λ b k v. 0 < b) t
positive_blocks land t own = EachNode-weaker (λ b k v. IsOwn land b) (λ b k v. 0 < b) (λ b k v o. o.0.positive) t own

root_word : (land : Land) (root : ℕ) → IsOwn land root → IsDataWordOf land (root + 1)
root_word land root own = record { block = root; index = 1; own = own; place = refl; above = omega arith; below = omega arith }

-- ---- what a search tells of the map

pub located_absent : (s : Space) (root key b : ℕ) (t : Tree) → Locates s root key b → b ≡ 0 → IsTree s.land s.word root t → IsAbsent key t
located_absent s root key b t locates none h = none_absent key t (positive_blocks s.land t h.own) h.ordered (sym (locates t h) ∙ none)

pub value_none : (s : Space) (root key b : ℕ) → Locates s root key b → b ≡ 0 → (m : FiniteMap) → Holds s root m → None ≡ lookup key m
value_none s root key b locates none m h =
    sym (ap (lookup key) h.entries_are ∙ absent_none key h.tree h.is.ordered (located_absent s root key b h.tree locates none h.is))

pub some_at : (s : Space) (root key b : ℕ) (t : Tree) → Locates s root key b → (b ≡ 0 → ⊥) → IsTree s.land s.word root t → block_of key t ≢ 0
some_at s root key b t locates some h e = some (locates t h ∙ e)

pub value_some : (s : Space) (root key b : ℕ) → Locates s root key b → (b ≡ 0 → ⊥) → (m : FiniteMap) → Holds s root m → Some (s.word (b + 2)) ≡ lookup key m
value_some s root key b locates some m h =
    ap (λ x. Some (s.word (x + 2))) (locates h.tree h.is)
    ∙ sym (ap (lookup key) h.entries_are ∙ found_value s.word key h.tree h.is.laid h.is.ordered (some_at s root key b h.tree locates some h.is))

pub located_in : (s : Space) (root key b : ℕ) (t : Tree) → Locates s root key b → (b ≡ 0 → ⊥) → IsTree s.land s.word root t → IsIn t b
located_in s root key b t locates some h = subst (IsIn t) (sym (locates t h)) (found_in key t (some_at s root key b t locates some h))

pub located_own : (s : Space) (root key b : ℕ) → Locates s root key b → (b ≡ 0 → ⊥) → HoldsMap s root → IsOwn s.land b
located_own s root key b locates some h = block_own s.land h.is.tree b h.is.is.own (located_in s root key b h.is.tree locates some h.is.is)

located_apart : (s : Space) (root key b : ℕ) → Locates s root key b → (b ≡ 0 → ⊥) → HoldsMap s root → root ≢ b
located_apart s root key b locates some h e =
    root_out s.land s.word root h.is.tree h.is.is (subst (IsIn h.is.tree) (sym e) (located_in s root key b h.is.tree locates some h.is.is))

pub needed_none : (s : Space) (root key b : ℕ) → Locates s root key b → b ≡ 0 → (m : FiniteMap) → Holds s root m → 1 ≡ needed key m
needed_none s root key b locates none m h = ap (λ o. if is_none o then 1 else 0) (value_none s root key b locates none m h)

pub needed_some : (s : Space) (root key b : ℕ) → Locates s root key b → (b ≡ 0 → ⊥) → (m : FiniteMap) → Holds s root m → 0 ≡ needed key m
needed_some s root key b locates some m h = ap (λ o. if is_none o then 1 else 0) (value_some s root key b locates some m h)

-- ---- a block is taken

module _ (s : Space) (fresh : ℕ) (block : IsBlock s.land fresh) (apart : s.land.owner fresh ≢ s.land.structure + 1) where
  pub taken_fresh : IsOwn (taken fresh s).land fresh
  taken_fresh = (record { number = block.number; place = block.place; positive = block.positive; fits = block.fits }, put_same fresh (s.land.structure + 1) s.land.owner)

  pub not_fresh : (c : ℕ) → IsOwn s.land c → c ≢ fresh
  not_fresh c own e = apart (ap s.land.owner (sym e) ∙ own.1)

  pub taken_own : (c : ℕ) → IsOwn s.land c → IsOwn (taken fresh s).land c
  taken_own c own = (
    record { number = own.0.number; place = own.0.place; positive = own.0.positive; fits = own.0.fits },
    put_other fresh (s.land.structure + 1) c s.land.owner (not_fresh c own) ∙ own.1,
  )

  pub taken_back : (c : ℕ) → IsOwn (taken fresh s).land c → c ≢ fresh → IsOwn s.land c
  taken_back c own ne = (
    record { number = own.0.number; place = own.0.place; positive = own.0.positive; fits = own.0.fits },
    sym (put_other fresh (s.land.structure + 1) c s.land.owner ne) ∙ own.1,
  )

  pub growing_of : (root key : ℕ) (t : Tree) → IsTree s.land s.word root t → IsAbsent key t → IsGrowing (taken fresh s) (s.word (root + 1)) fresh key t
  growing_of root key t h absent = record {
    stands = record { top_is = h.top_is; laid = h.laid; own = EachNode-weaker (λ b k v. IsOwn s.land b) (λ b k v. IsOwn (taken fresh s).land b) (λ b k v o. taken_own b o) t h.own };
    ordered = h.ordered;
    absent = absent;
    own = taken_fresh;
    new = λ m. not_fresh fresh (block_own s.land t fresh h.own m) refl;
  }

  module _ (u : Space) (root key value link : ℕ) (t : Tree) (h : IsTree s.land s.word root t) (absent : IsAbsent key t) (positive : 1 ≤ value)
      (among : IsAmong s.spare fresh) (grows : Grows (taken fresh s) u (s.word (root + 1)) fresh key value link) where
    built : IsRebuilt (λ c. IsIn t c ⊎ (c ≡ fresh)) (5 + 9 * height t) (taken fresh s) u link (with_node fresh key value t)
    built = grows t (growing_of root key t h absent)

    own_after : (c : ℕ) → IsOwn (taken fresh s).land c → IsOwn u.land c
    own_after c own = subst (λ (y : Land). IsOwn y c) (sym built.changes.land) own

    own_changed : (c : ℕ) → IsIn t c ⊎ (c ≡ fresh) → IsOwn u.land c
    own_changed c (inl m) = own_after c (taken_own c (block_own s.land t c h.own m))
    own_changed c (inr e) = own_after c (subst (IsOwn (taken fresh s).land) (sym e) taken_fresh)

    root_out_after : IsIn (with_node fresh key value t) root → ⊥
    root_out_after m = EachNode-in (λ b. root ≢ b) (with_node fresh key value t) root
        (with_node-each (λ b k v. root ≢ b) fresh key value t (not_fresh root h.root_own) (each_in (λ b. root ≢ b) t (λ c n e. root_out s.land s.word root t h (subst (IsIn t) (sym e) n)))) m refl

    kept_words : (c i : ℕ) → IsIn (with_node fresh key value t) c → i < 16 → put_word (root + 1) link u.word (c + i) ≡ u.word (c + i)
    kept_words c i m li = put_other (root + 1) link (c + i) u.word
        (blocks_apart u.land c root i 1 (block_own u.land (with_node fresh key value t) c built.stands.own m).0 (own_after root (taken_own root h.root_own)).0
        (λ e. root_out_after (subst (IsIn (with_node fresh key value t)) e m)) li (omega arith))

    reached_after : (b : ℕ) → IsOwn u.land b → (b ≡ root) ⊎ IsIn (with_node fresh key value t) b
    reached_after b own = elim (eqb_tells b fresh) [
      | inl e ↦ inr (with_node-in fresh key value t b (inr e.1))
      | inr ne ↦ (elim (reached s.land s.word root t b h (taken_back b (subst (λ (y : Land). IsOwn y b) built.changes.land own) ne.1)) [
        | inl e ↦ inl e
        | inr m ↦ inr (with_node-in fresh key value t b (inl m))
      ])
    ]

    pub inserted : IsInserted s (written (root + 1) link u) root key value t
    inserted = record {
      taken = record { block = fresh; among = among; land = built.changes.land; spare = built.changes.spare };
      tree = record {
        root_own = own_after root (taken_own root h.root_own);
        top_is = put_same (root + 1) link u.word ∙ built.stands.top_is;
        laid = laid_kept u.word (put_word (root + 1) link u.word) (with_node fresh key value t) kept_words built.stands.laid;
        own = built.stands.own;
        once = once_of root (with_node fresh key value t) root_out_after (standing_apart u link (with_node fresh key value t) built.stands (with_node-ordered fresh key value t h.ordered absent));
        all = λ b own. among_of root (with_node fresh key value t) b (reached_after b own);
        ordered = with_node-ordered fresh key value t h.ordered absent;
        balanced = (with_node-grown fresh key value t h.balanced).balanced;
        filled = with_node-each (λ b k v. 1 ≤ v) fresh key value t positive h.filled;
      };
      others = λ a out_before out_after. put_other (root + 1) link a u.word (λ e. out_before (subst (IsDataWordOf s.land) (sym e) (root_word s.land root h.root_own)))
          ∙ built.changes.elsewhere a (λ b i m above below e. out_after (record { block = b; index = i; own = own_changed b m; place = e; above = above; below = below }));
      writes = let few = built.changes.writes in omega (arith, few);
    }

-- ---- a value is changed

laid_beside : (land : Land) (w : Words) (a i x : ℕ) (t : Tree) → IsBlock land a → i < 16 → AreOwn land t → (IsIn t a → ⊥) → IsLaid w t → IsLaid (put_word (a + i) x w) t
laid_beside land w a i x t block li own out laid = laid_kept w (put_word (a + i) x w) t
    (λ d m h lm. put_other (a + i) x (d + m) w (blocks_apart land d a m i (block_own land t d own h).0 block (λ e. out (subst (IsIn t) e h)) lm li)) laid

node_beside : (land : Land) (w : Words) (a i x b k v left right h : ℕ) → IsBlock land a → IsBlock land b → a ≢ b → i < 16 → IsNode w b k v left right h → IsNode (put_word (a + i) x w) b k v left right h
node_beside land w a i x b k v left right h block_a block_b ne li node = record {
  key = other 1 (omega arith) ∙ node.key;
  value = other 2 (omega arith) ∙ node.value;
  left_is = other 3 (omega arith) ∙ node.left_is;
  right_is = other 4 (omega arith) ∙ node.right_is;
  height_is = other 5 (omega arith) ∙ node.height_is;
}
  where
    other : (j : ℕ) → j < 16 → put_word (a + i) x w (b + j) ≡ w (b + j)
    other j lj = put_other (a + i) x (b + j) w (blocks_apart land b a j i block_b block_a (λ e. ne (sym e)) lj li)

node_valued : (w : Words) (b x k v left right h : ℕ) → IsNode w b k v left right h → IsNode (put_word (b + 2) x w) b k x left right h
node_valued w b x k v left right h node = record {
  key = put_other (b + 2) x (b + 1) w (λ e. omega (arith, e)) ∙ node.key;
  value = put_same (b + 2) x w;
  left_is = put_other (b + 2) x (b + 3) w (λ e. omega (arith, e)) ∙ node.left_is;
  right_is = put_other (b + 2) x (b + 4) w (λ e. omega (arith, e)) ∙ node.right_is;
  height_is = put_other (b + 2) x (b + 5) w (λ e. omega (arith, e)) ∙ node.height_is;
}

with_value-laid : (land : Land) (w : Words) (key value : ℕ) (t : Tree) → IsLaid w t → AreOwn land t → IsApart t → block_of key t ≢ 0
    → IsLaid (put_word (block_of key t + 2) value w) (with_value key value t)
with_value-laid land w key value Leaf laid own apart some = tt
with_value-laid land w key value (Node b k v l r) laid own apart some =
    by_case (with_value-laid land w key value l laid.1 own.1 apart.3) (with_value-laid land w key value r laid.2 own.2 apart.4) (found_in key l) (found_in key r) (key == k) (nat_lt key k) some
  where
    by_case : (block_of key l ≢ 0 → IsLaid (put_word (block_of key l + 2) value w) (with_value key value l)) → (block_of key r ≢ 0 → IsLaid (put_word (block_of key r + 2) value w) (with_value key value r))
        → (block_of key l ≢ 0 → IsIn l (block_of key l)) → (block_of key r ≢ 0 → IsIn r (block_of key r))
        → (a x : Bool) → (if a then b else (if x then block_of key l else block_of key r)) ≢ 0
        → IsLaid (put_word ((if a then b else (if x then block_of key l else block_of key r)) + 2) value w)
        (if a then Node b k value l r else (if x then Node b k v (with_value key value l) r else Node b k v l (with_value key value r)))
    by_case on_left on_right in_left in_right true x some = (
      node_valued w b value k v (top l) (top r) (1 + max (height l) (height r)) laid.0,
      laid_beside land w b 2 value l own.0.0 (omega arith) own.1 apart.0 laid.1,
      laid_beside land w b 2 value r own.0.0 (omega arith) own.2 apart.1 laid.2,
    )
    by_case on_left on_right in_left in_right false true some =
        let m = in_left some in (
          subst (λ y. IsNode (put_word (block_of key l + 2) value w) b k v y (top r) (1 + max (height (with_value key value l)) (height r))) (sym (with_value-top key value l))
              (subst (λ y. IsNode (put_word (block_of key l + 2) value w) b k v (top l) (top r) (1 + max y (height r))) (sym (with_value-height key value l))
              (node_beside land w (block_of key l) 2 value b k v (top l) (top r) (1 + max (height l) (height r)) (block_own land l (block_of key l) own.1 m).0 own.0.0 (λ e. apart.0 (subst (IsIn l) e m)) (omega arith) laid.0)),
          on_left some,
          laid_beside land w (block_of key l) 2 value r (block_own land l (block_of key l) own.1 m).0 (omega arith) own.2 (λ n. apart.2 (block_of key l) m n) laid.2,
        )
    by_case on_left on_right in_left in_right false false some =
        let m = in_right some in (
          subst (λ y. IsNode (put_word (block_of key r + 2) value w) b k v (top l) y (1 + max (height l) (height (with_value key value r)))) (sym (with_value-top key value r))
              (subst (λ y. IsNode (put_word (block_of key r + 2) value w) b k v (top l) (top r) (1 + max (height l) y)) (sym (with_value-height key value r))
              (node_beside land w (block_of key r) 2 value b k v (top l) (top r) (1 + max (height l) (height r)) (block_own land r (block_of key r) own.2 m).0 own.0.0 (λ e. apart.1 (subst (IsIn r) e m)) (omega arith) laid.0)),
          laid_beside land w (block_of key r) 2 value l (block_own land r (block_of key r) own.2 m).0 (omega arith) own.1 (λ n. apart.2 (block_of key r) n m) laid.1,
          on_right some,
        )

pub overwritten : (s : Space) (root key value : ℕ) (t : Tree) → IsTree s.land s.word root t → block_of key t ≢ 0 → 1 ≤ value
    → IsTree s.land (put_word (block_of key t + 2) value s.word) root (with_value key value t)
overwritten s root key value t h some positive =
    let m = found_in key t some in
    record {
      root_own = h.root_own;
      top_is = put_other (block_of key t + 2) value (root + 1) s.word
          (blocks_apart s.land root (block_of key t) 1 2 h.root_own.0 (block_own s.land t (block_of key t) h.own m).0 (λ e. root_out s.land s.word root t h (subst (IsIn t) (sym e) m)) (omega arith) (omega arith))
          ∙ h.top_is ∙ sym (with_value-top key value t);
      laid = with_value-laid s.land s.word key value t h.laid h.own (standing_apart s (s.word (root + 1)) t (whole_stands s root t h) h.ordered) some;
      own = with_value-each (λ b k v. IsOwn s.land b) key value (λ b k v o. o) t h.own;
      once = subst (λ xs. HasNoRepeats (root ∷ xs)) (sym (with_value-blocks key value t)) h.once;
      all = λ b own. subst (λ xs. IsAmong (root ∷ xs) b) (sym (with_value-blocks key value t)) (h.all b own);
      ordered = with_value-ordered key value t h.ordered some;
      balanced = with_value-balanced key value t h.balanced;
      filled = with_value-each (λ b k v. 1 ≤ v) key value (λ b k v _. positive) t h.filled;
    }

-- ---- a block is given

module _ (s : Space) (gone : ℕ) where
  pub given_own : (c : ℕ) → IsOwn s.land c → c ≢ gone → IsOwn (given gone s).land c
  given_own c own ne = (
    record { number = own.0.number; place = own.0.place; positive = own.0.positive; fits = own.0.fits },
    put_other gone 0 c s.land.owner ne ∙ own.1,
  )

  pub given_back : (c : ℕ) → IsOwn (given gone s).land c → IsOwn s.land c
  given_back c own = elim (eqb_tells c gone) [
    | inl e ↦ absurd (let is : put_word gone 0 s.land.owner c ≡ 0 = ap (put_word gone 0 s.land.owner) e.1 ∙ put_same gone 0 s.land.owner in let o = own.1 in omega (arith, is, o))
    | inr ne ↦ (
      record { number = own.0.number; place = own.0.place; positive = own.0.positive; fits = own.0.fits },
      sym (put_other gone 0 c s.land.owner ne.1) ∙ own.1,
    )
  ]

  pub given_apart : (c : ℕ) → IsOwn (given gone s).land c → c ≢ gone
  given_apart c own e = let is : put_word gone 0 s.land.owner c ≡ 0 = ap (put_word gone 0 s.land.owner) e ∙ put_same gone 0 s.land.owner in let o = own.1 in omega (arith, is, o)

found_key : (w : Words) (key : ℕ) (t : Tree) → EachNode (λ b k v. w (b + 1) ≡ k) t → block_of key t ≢ 0 → w (block_of key t + 1) ≡ key
found_key w key Leaf keys some = absurd (some refl)
found_key w key (Node b k v l r) keys some =
    elim (eqb_tells key k) [
      | inl e ↦ (let on = e.0 in rw on (keys.0 ∙ sym e.1))
      | inr ne ↦ by_order (found_key w key l keys.1) (found_key w key r keys.2) ne.0 (nat_lt key k) refl
    ]
  where
    by_order : (block_of key l ≢ 0 → w (block_of key l + 1) ≡ key) → (block_of key r ≢ 0 → w (block_of key r + 1) ≡ key) → (key == k) ≡ false
        → (x : Bool) → nat_lt key k ≡ x → w (block_of key (Node b k v l r) + 1) ≡ key
    by_order on_left on_right off true is =
        let rest : block_of key l ≢ 0 = rw (off, is) at some in
        rw (off, is) (on_left rest)
    by_order on_left on_right off false is =
        let rest : block_of key r ≢ 0 = rw (off, is) at some in
        rw (off, is) (on_right rest)

pub record IsRemoved (s u : Space) (root key : ℕ) (t : Tree) : Type 0 where
  pub given : GivesOne s u
  pub tree : IsTree u.land u.word root (without_node key t)
  pub others : KeepsOthers s u
  pub writes : u.writes ≤ s.writes + (12 + 9 * height t)

module _ (s u : Space) (root key link : ℕ) (t : Tree) (h : IsTree s.land s.word root t) (some : block_of key t ≢ 0) (shrinks : Shrinks s u (s.word (root + 1)) key link) where
  shrunk : IsRebuilt (IsIn t) (9 * height t) s u link (without_node key t)
  shrunk = shrinks t (record { stands = whole_stands s root t h; ordered = h.ordered; present = some })

  gone_in : IsIn t (block_of key t)
  gone_in = found_in key t some

  own_u : (c : ℕ) → IsOwn s.land c → IsOwn u.land c
  own_u c own = subst (λ (y : Land). IsOwn y c) (sym shrunk.changes.land) own

  own_s : (c : ℕ) → IsOwn u.land c → IsOwn s.land c
  own_s c own = subst (λ (y : Land). IsOwn y c) shrunk.changes.land own

  root_apart : root ≢ block_of key t
  root_apart e = root_out s.land s.word root t h (subst (IsIn t) (sym e) gone_in)

  root_out_u : IsIn (without_node key t) root → ⊥
  root_out_u m = EachNode-in (λ b. root ≢ b) (without_node key t) root (without_node-each (λ b k v. root ≢ b) key t (each_in (λ b. root ≢ b) t (λ c n e. root_out s.land s.word root t h (subst (IsIn t) (sym e) n)))) m refl

  words_u : (c i : ℕ) → IsIn (without_node key t) c → i < 16 → put_word (root + 1) link u.word (c + i) ≡ u.word (c + i)
  words_u c i m li = put_other (root + 1) link (c + i) u.word
      (blocks_apart u.land c root i 1 (block_own u.land (without_node key t) c shrunk.stands.own m).0 (own_u root h.root_own).0 (λ e. root_out_u (subst (IsIn (without_node key t)) e m)) li (omega arith))

  -- the block that goes is none of the rest
  gone_out : EachNode (λ b k v. b ≢ block_of key t) (without_node key t)
  gone_out = apart_blocks (without_node key t) (without_node-absent key t h.ordered) (without_node-each (λ b k v. s.word (b + 1) ≡ k) key t (laid_keys s.word t h.laid))
    where
      apart_blocks : (x : Tree) → IsAbsent key x → EachNode (λ b k v. s.word (b + 1) ≡ k) x → EachNode (λ b k v. b ≢ block_of key t) x
      apart_blocks Leaf absent keys = tt
      apart_blocks (Node b k v l r) absent keys = (
        (λ e. absent.0 (sym (found_key s.word key t (laid_keys s.word t h.laid) some) ∙ ap (λ y. s.word (y + 1)) (sym e) ∙ keys.0)),
        apart_blocks l absent.1 keys.1,
        apart_blocks r absent.2 keys.2,
      )

  own_rest : (x : Tree) → AreOwn u.land x → EachNode (λ b k v. b ≢ block_of key t) x → AreOwn (given (block_of key t) (written (root + 1) link u)).land x
  own_rest Leaf own out = tt
  own_rest (Node b k v l r) own out = (given_own (written (root + 1) link u) (block_of key t) b own.0 out.0, own_rest l own.1 out.1, own_rest r own.2 out.2)

  reached_u : (b : ℕ) → IsOwn (given (block_of key t) (written (root + 1) link u)).land b → (b ≡ root) ⊎ IsIn (without_node key t) b
  reached_u b own = elim (reached s.land s.word root t b h (own_s b (given_back (written (root + 1) link u) (block_of key t) b own))) [
    | inl e ↦ inl e
    | inr m ↦ inr (without_node-in key t b m (given_apart (written (root + 1) link u) (block_of key t) b own))
  ]

  pub removed : IsRemoved s (given (block_of key t) (written (root + 1) link u)) root key t
  removed = record {
    given = record { block = block_of key t; own = block_own s.land t (block_of key t) h.own gone_in; land = ap (with_owner (block_of key t) 0) shrunk.changes.land; spare = shrunk.changes.spare };
    tree = record {
      root_own = given_own (written (root + 1) link u) (block_of key t) root (own_u root h.root_own) root_apart;
      top_is = put_same (root + 1) link u.word ∙ shrunk.stands.top_is;
      laid = laid_kept u.word (put_word (root + 1) link u.word) (without_node key t) words_u shrunk.stands.laid;
      own = own_rest (without_node key t) shrunk.stands.own gone_out;
      once = once_of root (without_node key t) root_out_u (standing_apart u link (without_node key t) shrunk.stands (without_node-ordered key t h.ordered));
      all = λ b own. among_of root (without_node key t) b (reached_u b own);
      ordered = without_node-ordered key t h.ordered;
      balanced = (without_node-shrunk key t h.balanced).balanced;
      filled = without_node-each (λ b k v. 1 ≤ v) key t h.filled;
    };
    others = λ a out_before out_after. put_other (root + 1) link a u.word (λ e. out_before (subst (IsDataWordOf s.land) (sym e) (root_word s.land root h.root_own)))
        ∙ shrunk.changes.elsewhere a (λ b i m above below e. out_before (record { block = b; index = i; own = block_own s.land t b h.own m; place = e; above = above; below = below }));
    writes = let few = shrunk.changes.writes in omega (arith, few);
  }

-- ---- an insertion in code

pub insert_can : (s t : Space) (root key top fresh : ℕ) → AreSpare s → IsTaken s fresh t → CanInsert s root key → top ≡ s.word (root + 1) → CanGrow t top fresh key
insert_can s t root key top fresh spare is_taken h here =
    subst (λ (y : Space). CanGrow y top fresh key) (sym is_taken.space)
    (subst (λ x. CanGrow (taken fresh s) x fresh key) (sym here)
    (record { tree = h.tree; is = growing_of s fresh is_taken.block (spare.apart fresh is_taken.among).1 root key h.tree h.is h.absent }))

module _ (s t u : Space) (root key value top fresh link : ℕ) (spare : AreSpare s) (is_taken : IsTaken s fresh t) (here : top ≡ s.word (root + 1)) (grows : Grows t u top fresh key value link) where
  grows_from : Grows (taken fresh s) u (s.word (root + 1)) fresh key value link
  grows_from = subst (λ (y : Space). Grows y u (s.word (root + 1)) fresh key value link) is_taken.space (subst (λ x. Grows t u x fresh key value link) here grows)

  pub insert_own : CanInsert s root key → IsOwn u.land root
  insert_own h =
      let done = grows_from h.tree (growing_of s fresh is_taken.block (spare.apart fresh is_taken.among).1 root key h.tree h.is h.absent) in
      subst (λ (y : Land). IsOwn y root) (sym done.changes.land) (taken_own s fresh is_taken.block (spare.apart fresh is_taken.among).1 root h.is.root_own)

  pub insert_made : (v : Space) (x : ℕ) → 1 ≤ value → v ≡ written (root + 1) x u → x ≡ link → Inserts s v root key value
  insert_made v x positive made same tree h absent =
      subst (λ (y : Space). IsInserted s y root key value tree) (sym (made ∙ ap (λ z. written (root + 1) z u) same))
      (inserted s fresh is_taken.block (spare.apart fresh is_taken.among).1 u root key value link tree h absent positive is_taken.among grows_from)

-- ---- the calls

pub map_in : (s t : Space) (root : ℕ) → t ≡ s → HoldsMap s root → HoldsMap t root
map_in s t root same h = subst (λ (y : Space). HoldsMap y root) (sym same) h

pub can_insert : (s t : Space) (root key b : ℕ) → t ≡ s → Locates s root key b → b ≡ 0 → HoldsMap s root → CanInsert t root key
can_insert s t root key b same locates none h =
    subst (λ (y : Space). CanInsert y root key) (sym same) (record { tree = h.is.tree; is = h.is.is; absent = located_absent s root key b h.is.tree locates none h.is.is })

pub inserts_in : (s t u : Space) (root key value : ℕ) → t ≡ s → Inserts t u root key value → Inserts s u root key value
inserts_in s t u root key value same h = subst (λ (y : Space). Inserts y u root key value) same h

module _ (s u : Space) (root key value b : ℕ) (locates : Locates s root key b) (none : b ≡ 0) (inserts : Inserts s u root key value) where
  pub put_new-contents : (m : FiniteMap) → Holds s root m → Holds u root (with_pair key value m)
  put_new-contents m h =
      let absent = located_absent s root key b h.tree locates none h.is in
      let done = inserts h.tree h.is absent in
      record { tree = with_node done.taken.block key value h.tree; is = done.tree; entries_are = ap (with_pair key value) h.entries_are ∙ sym (with_node-entries done.taken.block key value h.tree h.is.ordered absent) }

  pub put_new : (h : HoldsMap s root) → IsInserted s u root key value h.is.tree
  put_new h = inserts h.is.tree h.is.is (located_absent s root key b h.is.tree locates none h.is.is)

  pub put_new-writes : WritesFew s u root
  put_new-writes t h = (inserts t h (located_absent s root key b t locates none h)).writes

module _ (s u : Space) (root key value b : ℕ) (locates : Locates s root key b) (some : b ≡ 0 → ⊥) (positive : 1 ≤ value) (made : u ≡ written (b + 2) value s) where
  pub put_old-contents : (m : FiniteMap) → Holds s root m → Holds u root (with_pair key value m)
  put_old-contents m h =
      let there = some_at s root key b h.tree locates some h.is in
      subst (λ (y : Space). Holds y root (with_pair key value m)) (sym (made ∙ ap (λ x. written (x + 2) value s) (locates h.tree h.is)))
      (record { tree = with_value key value h.tree; is = overwritten s root key value h.tree h.is there positive; entries_are = ap (with_pair key value) h.entries_are ∙ sym (with_value-entries key value h.tree h.is.ordered there) })

  pub put_old-others : HoldsMap s root → KeepsOthers s u
  put_old-others h a out_before out_after =
      ap (λ (y : Space). y.word a) made
      ∙ put_other (b + 2) value a s.word (λ e. out_before (record { block = b; index = 2; own = located_own s root key b locates some h; place = e; above = omega arith; below = omega arith }))

  pub put_old-writes : WritesFew s u root
  put_old-writes t h = let e = ap (λ (y : Space). y.writes) made in omega (arith, e)

  pub put_old-blocks : KeepsBlocks s u
  put_old-blocks = record { land = ap (λ (y : Space). y.land) made; spare = ap (λ (y : Space). y.spare) made }

pub can_shrink : (s t : Space) (root key top b : ℕ) → t ≡ s → top ≡ s.word (root + 1) → Locates s root key b → (b ≡ 0 → ⊥) → HoldsMap s root → CanShrink t top key
can_shrink s t root key top b same here locates some h =
    subst (λ (y : Space). CanShrink y top key) (sym same) (subst (λ x. CanShrink s x key) (sym here)
    (record { tree = h.is.tree; is = record { stands = whole_stands s root h.is.tree h.is.is; ordered = h.is.is.ordered; present = some_at s root key b h.is.tree locates some h.is.is } }))

module _ (s t u : Space) (root key top link b : ℕ) (locates : Locates s root key b) (some : b ≡ 0 → ⊥) (same : t ≡ s) (here : top ≡ s.word (root + 1)) (shrinks : Shrinks t u top key link) where
  shrinks_from : Shrinks s u (s.word (root + 1)) key link
  shrinks_from = subst (λ (y : Space). Shrinks y u (s.word (root + 1)) key link) same (subst (λ x. Shrinks t u x key link) here shrinks)

  pub remove_land : HoldsMap s root → u.land ≡ s.land
  remove_land h = (shrinks_from h.is.tree (record { stands = whole_stands s root h.is.tree h.is.is; ordered = h.is.is.ordered; present = some_at s root key b h.is.tree locates some h.is.is })).changes.land

  pub remove_own : HoldsMap s root → IsOwn u.land root
  remove_own h = subst (λ (y : Land). IsOwn y root) (sym (remove_land h)) h.is.is.root_own

  module _ (v w : Space) (x : ℕ) (made : v ≡ written (root + 1) x u) (is_link : x ≡ link) where
    pub remove_give : HoldsMap s root → IsOwn v.land b
    remove_give h = subst (λ (y : Space). IsOwn y.land b) (sym made) (subst (λ (y : Land). IsOwn y b) (sym (remove_land h)) (located_own s root key b locates some h))

    pub remove_not_root : HoldsMap s root → root ≡ root_block s.land → b ≢ root_block v.land
    remove_not_root h first e =
        let land : v.land ≡ s.land = ap (λ (y : Space). y.land) made ∙ remove_land h in
        located_apart s root key b locates some h (first ∙ sym (e ∙ ap root_block land))

    module _ (gave : w ≡ given b v) where
      pub removed_by : (tree : Tree) → IsTree s.land s.word root tree → IsRemoved s w root key tree
      removed_by tree h = subst (λ (y : Space). IsRemoved s y root key tree)
          (sym (gave ∙ ap (given b) (made ∙ ap (λ z. written (root + 1) z u) is_link) ∙ ap (λ y. given y (written (root + 1) link u)) (locates tree h)))
          (removed s u root key link tree h (some_at s root key b tree locates some h) shrinks_from)

      pub remove_contents : (m : FiniteMap) → Holds s root m → Holds w root (without_key key m)
      remove_contents m h = record { tree = without_node key h.tree; is = (removed_by h.tree h.is).tree; entries_are = ap (without_key key) h.entries_are ∙ sym (without_node-entries key h.tree h.is.ordered) }

-- a removal of a key that isn't there
pub without_absent : (s u : Space) (root key b : ℕ) → u ≡ s → Locates s root key b → b ≡ 0 → (m : FiniteMap) → Holds s root m → Holds u root (without_key key m)
without_absent s u root key b same locates none m h =
    subst (λ (y : Space). Holds y root (without_key key m)) (sym same)
    (subst (Holds s root) (sym (without_missing key m (sym (value_none s root key b locates none m h)))) h)
