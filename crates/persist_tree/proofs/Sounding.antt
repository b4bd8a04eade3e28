-- What the checks of a tree's words tell.
use Rattle.std.proofs.Common.{◌≡◌, ◌≢◌, ◌↔◌, inl, inr, ℕ, ◌+◌, ◌-◌, ◌*◌, ◌/◌, ◌%◌, ◌^◌, ◌<◌, ◌≤◌, max, Option, Some, None, List, ◌∷◌, length, refl, sym, subst, ◌∙◌, ap, arith, length-append}
use Rattle.std.proofs.lemmas.List.{get_or_past}
use Rattle.std.proofs.lemmas.Bool.{cases_lt}
use Rattle.std.proofs.Math.Pow.{pow_mono}
use Rattle.std.proofs.lemmas.Bool.Decides.{eqb_tells}
use Rattle.std.specs.Prelude.{slice_index, IsTrue, ◌==◌}
use Rattle.persist_model.specs.Region.{Words}
use Rattle.persist_model.specs.Chain.{Each, HasNoRepeats}
use Rattle.lane_traits.specs.Space.{Land, IsOwn}
use Rattle.region_layout.specs.HeapBlocks.{land_of, root_of}
use Rattle.region_layout.specs.TreeMap.{Tree, Leaf, Node, height, AreOwn, in_order, blocks, entries, IsTree}
use Rattle.region_layout.specs.Contents.{IsMap}
use Rattle.region_layout.specs.declared.layout.Kind.TheVariants as kind
use Rattle.persist_tree.specs.Trees.{IsIn}
use Rattle.persist_tree.specs.Sound.{IsArea, IsWithin, IsOver, IsUnder, IsSoundNode, IsSubtree, HasPart, HasNoPart, owned_count, HasTreeOf}
use Rattle.persist_tree.proofs.Nodes.{EachNode-weaker, EachNode-in, each_in}
use Rattle.persist_tree.proofs.Counting.{blocks-each, few_blocks}
use Rattle.persist_tree.proofs.Framing.{laid_keys, apart_of}
use Rattle.persist_tree.proofs.Whole.{once_of, root_out}
use Rattle.persist_tree.proofs.Lawful.{laid_unique, positive_of, low_heights}
use Rattle.persist_tree.proofs.Owned.{IsOwnBelow, count_least, count_all, count_most}

-- ---- blocks

module _ (xs : List ℕ) (heap blocks_are structure : ℕ) (area : IsArea xs heap blocks_are) where
  pub own_of : (link : ℕ) → heap ≤ link → link < length xs → (link - heap) % 16 ≡ 0 → slice_index xs link ≡ structure + 1 → IsOwn (land_of heap (slice_index xs) structure) link
  own_of link above below whole owner =
      let size = area.size in
      let positive = area.positive in
      let fits = area.fits in
      let place : link ≡ heap + 16 * ((link - heap) / 16) = omega (arith, above, whole) in
      (record { number = (link - heap) / 16; place = place; positive = omega (arith, above, positive); fits = omega (arith, size, fits, below, place) }, owner)

  pub own_above : (link : ℕ) → IsOwn (land_of heap (slice_index xs) structure) link → heap ≤ link
  own_above link own = let p = own.0.place in omega (arith, p)

  pub own_below : (link : ℕ) → IsOwn (land_of heap (slice_index xs) structure) link → link < length xs
  own_below link own = elim (cases_lt link (length xs)) [
    | inl lt ↦ lt
    | inr past ↦ absurd (let none = get_or_past xs link 0 past in let o = own.1 in omega (arith, none, o))
  ]

  pub own_whole : (link : ℕ) → IsOwn (land_of heap (slice_index xs) structure) link → (link - heap) % 16 ≡ 0
  own_whole link own = let p = own.0.place in omega (arith, p)

  pub own_inside : (link : ℕ) → IsOwn (land_of heap (slice_index xs) structure) link → link + 16 ≤ length xs
  own_inside link own = let p = own.0.place in let lt = own_below link own in let size = area.size in omega (arith, p, lt, size)

  pub own_word : (link r q : ℕ) → IsWithin xs heap link → r ≡ slice_index xs link → q ≡ structure → IsTrue (r == q + 1) ↔ IsOwn (land_of heap (slice_index xs) structure) link
  own_word link r q within read same = elim (eqb_tells r (q + 1)) [
    | inl e ↦ (let on = e.0 in rw on ((λ t. own_of link within.above within.below within.whole (sym read ∙ e.1 ∙ ap (λ x. x + 1) same)), (λ o. refl)))
    | inr ne ↦ (let off = ne.0 in rw off ((λ t. absurd (cc)), (λ o. absurd (ne.1 (read ∙ o.1 ∙ ap (λ x. x + 1) (sym same))))))
  ]

  pub own_within : (link : ℕ) → IsOwn (land_of heap (slice_index xs) structure) link → IsWithin xs heap link
  own_within link own = record { above = own_above link own; below = own_below link own; whole = own_whole link own }

  pub own_count : (link : ℕ) → IsOwn (land_of heap (slice_index xs) structure) link → IsOwnBelow (slice_index xs) heap (structure + 1) blocks_are link
  own_count link own =
      let p = own.0.place in let lt = own_below link own in let size = area.size in
      record { number = own.0.number; below = omega (arith, p, lt, size); place = p; owned = own.1 }

  pub count_own : (link : ℕ) → IsOwnBelow (slice_index xs) heap (structure + 1) blocks_are link → IsOwn (land_of heap (slice_index xs) structure) link
  count_own link h =
      let p = h.place in let lt = h.below in let size = area.size in let positive = area.positive in let fits = area.fits in
      (record { number = h.number; place = p; positive = omega (arith, p, positive); fits = omega (arith, p, lt, size, fits) }, h.owned)

-- ---- parts of a tree

over_more : (low : Option ℕ) (j k : ℕ) → IsOver low j → j < k → IsOver low k
over_more None j k h lt = tt
over_more (Some m) j k h lt = omega (arith, h, lt)

under_less : (high : Option ℕ) (j k : ℕ) → IsUnder high j → k < j → IsUnder high k
under_less None j k h lt = tt
under_less (Some m) j k h lt = omega (arith, h, lt)

module _ (land : Land) (w : Words) (root : ℕ) where
  pub part_none : (low high : Option ℕ) → IsSubtree land w root low high 0 Leaf
  part_none low high = record { top_is = refl; laid = tt; own = tt; ordered = tt; balanced = tt; filled = tt; apart = tt; over = tt; under = tt }

  module _ (low high : Option ℕ) (b : ℕ) where
    pub part_joined : (l r : Tree) → IsSoundNode land w root low high b → IsSubtree land w root low (Some (w (b + 1))) (w (b + 3)) l → IsSubtree land w root (Some (w (b + 1))) high (w (b + 4)) r
        → height l ≤ height r + 1 → height r ≤ height l + 1 → w (b + 5) ≡ 1 + max (height l) (height r) → IsSubtree land w root low high b (Node b (w (b + 1)) (w (b + 2)) l r)
    part_joined l r node left right most least is = record {
      top_is = refl;
      laid = (record { key = refl; value = refl; left_is = left.top_is; right_is = right.top_is; height_is = is }, left.laid, right.laid);
      own = (node.own, left.own, right.own);
      ordered = (left.under, right.over, left.ordered, right.ordered);
      balanced = (most, least, left.balanced, right.balanced);
      filled = (node.filled, left.filled, right.filled);
      apart = (node.apart, left.apart, right.apart);
      over = (node.over, left.over, EachNode-weaker (λ c k v. w (b + 1) < k) (λ c k v. IsOver low k) (λ c k v lt. over_more low (w (b + 1)) k node.over lt) r right.over);
      under = (node.under, EachNode-weaker (λ c k v. k < w (b + 1)) (λ c k v. IsUnder high k) (λ c k v lt. under_less high (w (b + 1)) k node.under lt) l left.under, right.under);
    }

    -- the node at the top
    pub record IsNodePart (t : Tree) : Type 0 where
      pub v : ℕ
      pub l : Tree
      pub r : Tree
      pub is : t ≡ Node b (w (b + 1)) v l r
      pub part : IsSubtree land w root low high b (Node b (w (b + 1)) v l r)

    pub node_part : (t : Tree) → IsSubtree land w root low high b t → (b ≡ 0 → ⊥) → IsNodePart t
    node_part Leaf h some = absurd (some h.top_is)
    node_part (Node c k v l r) h some =
        let here : k ≡ w (b + 1) = sym h.laid.0.key ∙ ap (λ x. w (x + 1)) (sym h.top_is) in
        let same : Node c k v l r ≡ Node b (w (b + 1)) v l r = ap (λ x. Node x k v l r) (sym h.top_is) ∙ ap (λ x. Node b x v l r) here in
        record { v = v; l = l; r = r; is = same; part = subst (IsSubtree land w root low high b) same h }

    pub part_sound : (v : ℕ) (l r : Tree) → IsSubtree land w root low high b (Node b (w (b + 1)) v l r) → IsSoundNode land w root low high b
    part_sound v l r h = record { own = h.own.0; apart = h.apart.0; filled = subst (λ x. 1 ≤ x) (sym h.laid.0.value) h.filled.0; over = h.over.0; under = h.under.0 }

    pub part_left : (v : ℕ) (l r : Tree) → IsSubtree land w root low high b (Node b (w (b + 1)) v l r) → IsSubtree land w root low (Some (w (b + 1))) (w (b + 3)) l
    part_left v l r h = record {
      top_is = h.laid.0.left_is;
      laid = h.laid.1;
      own = h.own.1;
      ordered = h.ordered.2;
      balanced = h.balanced.2;
      filled = h.filled.1;
      apart = h.apart.1;
      over = h.over.1;
      under = h.ordered.0;
    }

    pub part_right : (v : ℕ) (l r : Tree) → IsSubtree land w root low high b (Node b (w (b + 1)) v l r) → IsSubtree land w root (Some (w (b + 1))) high (w (b + 4)) r
    part_right v l r h = record {
      top_is = h.laid.0.right_is;
      laid = h.laid.2;
      own = h.own.2;
      ordered = h.ordered.3;
      balanced = h.balanced.3;
      filled = h.filled.2;
      apart = h.apart.2;
      over = h.ordered.1;
      under = h.under.2;
    }

    -- ---- where there is no such tree

    pub none_deep : (b ≡ 0 → ⊥) → HasNoPart land w root low high b 0
    none_deep some t h low_enough = let n = node_part t h some in let e : height t ≡ 1 + max (height n.l) (height n.r) = ap height n.is in omega (arith, e, low_enough)

    pub none_unsound : (depth : ℕ) → (b ≡ 0 → ⊥) → (IsSoundNode land w root low high b → ⊥) → HasNoPart land w root low high b depth
    none_unsound depth some out t h low_enough = let n = node_part t h some in out (part_sound n.v n.l n.r n.part)

    pub none_left : (depth less key : ℕ) (link : ℕ) → (b ≡ 0 → ⊥) → less + 1 ≡ depth → key ≡ w (b + 1) → link ≡ w (b + 3) → HasNoPart land w root low (Some key) link less → HasNoPart land w root low high b depth
    none_left depth less key link some one key_is link_is none t h low_enough =
        let n = node_part t h some in
        let e : height t ≡ 1 + max (height n.l) (height n.r) = ap height n.is in
        none n.l (subst (λ x. IsSubtree land w root low (Some x) link n.l) (sym key_is) (subst (λ x. IsSubtree land w root low (Some (w (b + 1))) x n.l) (sym link_is) (part_left n.v n.l n.r n.part)))
        (omega (arith, e, low_enough, one))

    pub none_right : (depth less key : ℕ) (link : ℕ) → (b ≡ 0 → ⊥) → less + 1 ≡ depth → key ≡ w (b + 1) → link ≡ w (b + 4) → HasNoPart land w root (Some key) high link less → HasNoPart land w root low high b depth
    none_right depth less key link some one key_is link_is none t h low_enough =
        let n = node_part t h some in
        let e : height t ≡ 1 + max (height n.l) (height n.r) = ap height n.is in
        none n.r (subst (λ x. IsSubtree land w root (Some x) high link n.r) (sym key_is) (subst (λ x. IsSubtree land w root (Some (w (b + 1))) high x n.r) (sym link_is) (part_right n.v n.l n.r n.part)))
        (omega (arith, e, low_enough, one))

    -- ---- both sides were measured

    module _ (key left_link right_link less left_levels left_nodes right_levels right_nodes : ℕ) (some : b ≡ 0 → ⊥) (key_is : key ≡ w (b + 1)) (left_is : left_link ≡ w (b + 3)) (right_is : right_link ≡ w (b + 4))
        (on_l : HasPart land w root low (Some key) left_link less left_levels left_nodes) (on_r : HasPart land w root (Some key) high right_link less right_levels right_nodes) where
      left_part : IsSubtree land w root low (Some (w (b + 1))) (w (b + 3)) on_l.tree
      left_part = subst (λ x. IsSubtree land w root low (Some x) (w (b + 3)) on_l.tree) key_is (subst (λ x. IsSubtree land w root low (Some key) x on_l.tree) left_is on_l.part)

      right_part : IsSubtree land w root (Some (w (b + 1))) high (w (b + 4)) on_r.tree
      right_part = subst (λ x. IsSubtree land w root (Some x) high (w (b + 4)) on_r.tree) key_is (subst (λ x. IsSubtree land w root (Some key) high x on_r.tree) right_is on_r.part)

      pub some_joined : (depth levels nodes : ℕ) → IsSoundNode land w root low high b → left_levels ≤ right_levels + 1 → right_levels ≤ left_levels + 1 → w (b + 5) ≡ levels → levels ≡ max left_levels right_levels + 1
          → nodes ≡ left_nodes + 1 + right_nodes → less + 1 ≡ depth → HasPart land w root low high b depth levels nodes
      some_joined depth levels nodes node most least height_is levels_are nodes_are one =
          let hl = on_l.height_is in
          let hr = on_r.height_is in
          let nl = on_l.nodes_are in
          let nr = on_r.nodes_are in
          let ll = on_l.low_enough in
          let lr = on_r.low_enough in
          let long = length-append (blocks on_l.tree) (b ∷ blocks on_r.tree) in
          record {
            tree = Node b (w (b + 1)) (w (b + 2)) on_l.tree on_r.tree;
            part = part_joined on_l.tree on_r.tree node left_part right_part (omega (arith, hl, hr, most)) (omega (arith, hl, hr, least)) (omega (arith, hl, hr, height_is, levels_are));
            height_is = omega (arith, hl, hr, levels_are);
            nodes_are = omega (arith, nl, nr, nodes_are, long);
            low_enough = omega (arith, levels_are, ll, lr, one);
          }

      -- the sides are the only ones
      pub none_joined : (depth : ℕ) → (left_levels ≤ right_levels + 1 → right_levels ≤ left_levels + 1 → w (b + 5) ≡ max left_levels right_levels + 1 → ⊥) → HasNoPart land w root low high b depth
      none_joined depth out t h low_enough =
          let n = node_part t h some in
          let l_part = part_left n.v n.l n.r n.part in
          let r_part = part_right n.v n.l n.r n.part in
          let same_l = laid_unique w n.l on_l.tree (positive_of land n.l l_part.own) (positive_of land on_l.tree left_part.own) l_part.laid left_part.laid (sym l_part.top_is ∙ left_part.top_is) in
          let same_r = laid_unique w n.r on_r.tree (positive_of land n.r r_part.own) (positive_of land on_r.tree right_part.own) r_part.laid right_part.laid (sym r_part.top_is ∙ right_part.top_is) in
          let hl : height n.l ≡ left_levels = ap height same_l ∙ on_l.height_is in
          let hr : height n.r ≡ right_levels = ap height same_r ∙ on_r.height_is in
          let p = n.part.balanced.0 in
          let q = n.part.balanced.1 in
          let z = n.part.laid.0.height_is in
          out (omega (arith, hl, hr, p)) (omega (arith, hl, hr, q)) (omega (arith, hl, hr, z))

pub part_few : (land : Land) (w : Words) (root : ℕ) (low high : Option ℕ) (link depth levels nodes : ℕ) → HasPart land w root low high link depth levels nodes → nodes ≤ 74242
part_few land w root low high link depth levels nodes h =
    let few = few_blocks land h.tree h.part.own (apart_of w h.tree (laid_keys w h.tree h.part.laid) h.part.ordered) in
    let e = h.nodes_are in
    omega (arith, few, e)

-- ---- the whole tree

same_length : {X Y : Type 0} (f : ℕ → ℕ → ℕ → X) (g : ℕ → ℕ → ℕ → Y) (t : Tree) → length (in_order f t) ≡ length (in_order g t)
same_length f g Leaf = refl
same_length f g (Node b k v l r) =
    let p = same_length f g l in
    let q = same_length f g r in
    let a = length-append (in_order f l) (f b k v ∷ in_order f r) in
    let z = length-append (in_order g l) (g b k v ∷ in_order g r) in
    omega (arith, p, q, a, z)

pub few_levels : (land : Land) (w : Words) (root : ℕ) (t : Tree) → IsTree land w root t → height t ≤ 33
few_levels land w root t h =
    let few = few_blocks land t h.own (apart_of w t (laid_keys w t h.laid) h.ordered) in
    let same = same_length {Y = ℕ × ℕ} (λ b k v. b) (λ b k v. (k, v)) t in
    let power = (low_heights t h.balanced).logarithmic in
    elim (cases_lt (height t / 2) 17) [
      | inl lt ↦ omega (arith, lt)
      | inr more ↦ absurd (let most = pow_mono {i = 17} {j = height t / 2} more in let big : 2 ^ 17 ≡ 131072 = refl in omega (arith, most, big, power, same, few))
    ]

module _ (xs : List ℕ) (heap blocks_are structure root : ℕ) (area : IsArea xs heap blocks_are) where
  whole_part : (t : Tree) → IsTree (land_of heap (slice_index xs) structure) (slice_index xs) root t → IsSubtree (land_of heap (slice_index xs) structure) (slice_index xs) root None None (slice_index xs (root + 1)) t
  whole_part t h = record {
    top_is = h.top_is;
    laid = h.laid;
    own = h.own;
    ordered = h.ordered;
    balanced = h.balanced;
    filled = h.filled;
    apart = each_in (λ b. b ≢ root) t (λ c m e. root_out (land_of heap (slice_index xs) structure) (slice_index xs) root t h (subst (IsIn t) e m));
    over = each_in (λ b. Unit {0}) t (λ c m. tt);
    under = each_in (λ b. Unit {0}) t (λ c m. tt);
  }

  pub no_tree-measured : (link : ℕ) → link ≡ slice_index xs (root + 1) → HasNoPart (land_of heap (slice_index xs) structure) (slice_index xs) root None None link 33
      → HasTreeOf (land_of heap (slice_index xs) structure) (slice_index xs) root → ⊥
  no_tree-measured link here none h = none h.tree
      (subst (λ x. IsSubtree (land_of heap (slice_index xs) structure) (slice_index xs) root None None x h.tree) (sym here) (whole_part h.tree h.is))
      (few_levels (land_of heap (slice_index xs) structure) (slice_index xs) root h.tree h.is)

  each_counted : (t : Tree) → IsOwn (land_of heap (slice_index xs) structure) root → AreOwn (land_of heap (slice_index xs) structure) t
      → Each (IsOwnBelow (slice_index xs) heap (structure + 1) blocks_are) (root ∷ blocks t)
  each_counted t root_own own = (
    own_count xs heap blocks_are structure area root root_own,
    blocks-each (IsOwnBelow (slice_index xs) heap (structure + 1) blocks_are) t
        (EachNode-weaker (λ b k v. IsOwn (land_of heap (slice_index xs) structure) b) (λ b k v. IsOwnBelow (slice_index xs) heap (structure + 1) blocks_are b) (λ b k v o. own_count xs heap blocks_are structure area b o) t own),
  )

  module _ (link levels nodes count : ℕ) (here : link ≡ slice_index xs (root + 1)) (root_own : IsOwn (land_of heap (slice_index xs) structure) root)
      (has : HasPart (land_of heap (slice_index xs) structure) (slice_index xs) root None None link 33 levels nodes) (counted : count ≡ owned_count (slice_index xs) heap (structure + 1) blocks_are) where
    part_once : HasNoRepeats (root ∷ blocks has.tree)
    part_once = once_of root has.tree (λ m. EachNode-in (λ b. b ≢ root) has.tree root has.part.apart m refl) (apart_of (slice_index xs) has.tree (laid_keys (slice_index xs) has.tree has.part.laid) has.part.ordered)

    pub tree-measured : nodes + 1 ≡ count → HasTreeOf (land_of heap (slice_index xs) structure) (slice_index xs) root
    tree-measured full = record {
      tree = has.tree;
      is = record {
        root_own = root_own;
        top_is = sym here ∙ has.part.top_is;
        laid = has.part.laid;
        own = has.part.own;
        once = part_once;
        all = λ b own. count_all (slice_index xs) heap (structure + 1) blocks_are (root ∷ blocks has.tree) part_once (each_counted has.tree root_own has.part.own)
            (let e = has.nodes_are in omega (arith, e, full, counted)) b (own_count xs heap blocks_are structure area b own);
        ordered = has.part.ordered;
        balanced = has.part.balanced;
        filled = has.part.filled;
      };
    }

    pub measured-full : HasTreeOf (land_of heap (slice_index xs) structure) (slice_index xs) root → nodes + 1 ≡ count
    measured-full h =
        let same = laid_unique (slice_index xs) h.tree has.tree (positive_of (land_of heap (slice_index xs) structure) h.tree h.is.own) (positive_of (land_of heap (slice_index xs) structure) has.tree has.part.own)
        h.is.laid has.part.laid (sym h.is.top_is ∙ sym here ∙ has.part.top_is) in
        let long : length (blocks h.tree) ≡ nodes = ap (λ x. length (blocks x)) same ∙ has.nodes_are in
        let least = count_least (slice_index xs) heap (structure + 1) blocks_are (root ∷ blocks h.tree) (λ b o. h.is.all b (count_own xs heap blocks_are structure area b o)) in
        let most = count_most (slice_index xs) heap (structure + 1) blocks_are (root ∷ blocks h.tree) h.is.once (each_counted h.tree h.is.root_own h.is.own) in
        omega (arith, long, least, most, counted)

pub holds_tree : (heap structure : ℕ) (w : Words) (root : ℕ) → root ≡ root_of heap structure → HasTreeOf (land_of heap w structure) w root → IsMap kind.Tree heap w structure
holds_tree heap structure w root here h = record {
  contents = entries h.tree;
  is = record { tree = h.tree; is = subst (λ x. IsTree (land_of heap w structure) w x h.tree) here h.is; entries_are = refl };
}

pub tree_held : (heap structure : ℕ) (w : Words) (root : ℕ) → root ≡ root_of heap structure → IsMap kind.Tree heap w structure → HasTreeOf (land_of heap w structure) w root
tree_held heap structure w root here h = record { tree = h.is.tree; is = subst (λ x. IsTree (land_of heap w structure) w x h.is.tree) (sym here) h.is.is }

pub holds_tree_at : (heap h structure : ℕ) (w : Words) (root : ℕ) → h ≡ heap → root ≡ root_of heap structure → HasTreeOf (land_of h w structure) w root → IsMap kind.Tree heap w structure
holds_tree_at heap h structure w root same here has = holds_tree heap structure w root here (subst (λ x. HasTreeOf (land_of x w structure) w root) same has)

-- a test of two numbers, by what both say
pub test_tells : (m n : ℕ) (P : Type 0) → (m ≡ n → P) → (P → m ≡ n) → IsTrue (m == n) ↔ P
test_tells m n P to from = elim (eqb_tells m n) [
  | inl e ↦ (let on = e.0 in rw on ((λ t. to e.1), (λ p. refl)))
  | inr ne ↦ (let off = ne.0 in rw off ((λ t. absurd (cc)), (λ p. absurd (ne.1 (from p)))))
]
