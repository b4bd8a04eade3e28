-- The laws of the map in a tree.
use Rattle.std.proofs.Common.{◌≡◌, ◌⊎◌, inl, inr, ℕ, zero, suc, ◌+◌, ◌-◌, ◌/◌, ◌^◌, ◌<◌, ◌≤◌, max, ◌∷◌, length, refl, sym, subst, ◌∙◌, ap, arith, length-append}
use Rattle.std.proofs.lemmas.Bool.{cases_lt}
use Rattle.std.proofs.Math.Nat.{pow-suc}
use Rattle.persist_model.specs.Region.{Words}
use Rattle.lane_traits.specs.Space.{Land, IsOwn}
use Rattle.region_layout.specs.HeapBlocks.{land_of, root_of, OwnsAlike}
use Rattle.region_layout.specs.TreeMap.{Tree, Leaf, Node, top, height, IsLaid, EachNode, AreOwn, IsBalanced, entries, IsTree}
use Rattle.persist_tree.specs.Laws.{HoldsOneMap, DependsOnItsBlocks, least_nodes, HeightsAreLow}
use Rattle.persist_tree.proofs.Nodes.{EachNode-weaker}

-- ---- the words say which tree it is

pub laid_unique : (w : Words) (t u : Tree) → EachNode (λ b k v. 0 < b) t → EachNode (λ b k v. 0 < b) u → IsLaid w t → IsLaid w u → top t ≡ top u → t ≡ u
laid_unique w Leaf Leaf pt pu lt lu e = refl
laid_unique w Leaf (Node b k v l r) pt pu lt lu e = absurd (let p = pu.0 in omega (arith, e, p))
laid_unique w (Node b k v l r) Leaf pt pu lt lu e = absurd (let p = pt.0 in omega (arith, e, p))
laid_unique w (Node b k v l r) (Node c j u m n) pt pu lt lu e =
    let left = laid_unique w l m pt.1 pu.1 lt.1 lu.1 (sym lt.0.left_is ∙ ap (λ x. w (x + 3)) e ∙ lu.0.left_is) in
    let right = laid_unique w r n pt.2 pu.2 lt.2 lu.2 (sym lt.0.right_is ∙ ap (λ x. w (x + 4)) e ∙ lu.0.right_is) in
    let key : k ≡ j = sym lt.0.key ∙ ap (λ x. w (x + 1)) e ∙ lu.0.key in
    let value : v ≡ u = sym lt.0.value ∙ ap (λ x. w (x + 2)) e ∙ lu.0.value in
    ap (λ x. Node x k v l r) e ∙ ap (λ x. Node c x v l r) key ∙ ap (λ x. Node c j x l r) value ∙ ap (λ x. Node c j u x r) left ∙ ap (λ x. Node c j u m x) right

pub positive_of : (land : Land) (t : Tree) → AreOwn land t → EachNode (λ b k v. 0 < b) t
positive_of land t own = EachNode-weaker (λ b k v. IsOwn land b) (λ b k v. 0 < b) (λ b k v o. o.0.positive) t own

pub one_map : HoldsOneMap
one_map land w root m n h k =
    h.entries_are ∙ ap entries (laid_unique w h.tree k.tree (positive_of land h.tree h.is.own) (positive_of land k.tree k.is.own) h.is.laid k.is.laid (sym h.is.top_is ∙ k.is.top_is)) ∙ sym k.entries_are

-- ---- a structure's blocks alone decide

module _ (heap structure : ℕ) (w u : Words) (alike : OwnsAlike heap structure w u) where
  own_there : (b : ℕ) → IsOwn (land_of heap w structure) b → IsOwn (land_of heap u structure) b
  own_there b own = (record { number = own.0.number; place = own.0.place; positive = own.0.positive; fits = own.0.fits }, alike.owned b own)

  own_here : (b : ℕ) → IsOwn (land_of heap u structure) b → IsOwn (land_of heap w structure) b
  own_here b own = (record { number = own.0.number; place = own.0.place; positive = own.0.positive; fits = own.0.fits }, alike.owned_back b own)

  laid_there : (t : Tree) → AreOwn (land_of heap w structure) t → IsLaid w t → IsLaid u t
  laid_there Leaf own laid = tt
  laid_there (Node b k v l r) own laid = (
    record {
      key = alike.words b 1 own.0 (omega arith) (omega arith) ∙ laid.0.key;
      value = alike.words b 2 own.0 (omega arith) (omega arith) ∙ laid.0.value;
      left_is = alike.words b 3 own.0 (omega arith) (omega arith) ∙ laid.0.left_is;
      right_is = alike.words b 4 own.0 (omega arith) (omega arith) ∙ laid.0.right_is;
      height_is = alike.words b 5 own.0 (omega arith) (omega arith) ∙ laid.0.height_is;
    },
    laid_there l own.1 laid.1,
    laid_there r own.2 laid.2,
  )

  pub tree_there : (t : Tree) → IsTree (land_of heap w structure) w (root_of heap structure) t → IsTree (land_of heap u structure) u (root_of heap structure) t
  tree_there t h = record {
    root_own = own_there (root_of heap structure) h.root_own;
    top_is = alike.words (root_of heap structure) 1 h.root_own (omega arith) (omega arith) ∙ h.top_is;
    laid = laid_there t h.own h.laid;
    own = EachNode-weaker (λ b k v. IsOwn (land_of heap w structure) b) (λ b k v. IsOwn (land_of heap u structure) b) (λ b k v o. own_there b o) t h.own;
    once = h.once;
    all = λ b own. h.all b (own_here b own);
    ordered = h.ordered;
    balanced = h.balanced;
    filled = h.filled;
  }

pub by_blocks : DependsOnItsBlocks
by_blocks heap structure w u m alike h = record { tree = h.tree; is = tree_there heap structure w u alike h.tree h.is; entries_are = h.entries_are }

-- ---- how high a tree is

least-rises : (h : ℕ) → least_nodes h ≤ least_nodes (suc h)
least-rises zero = omega arith
least-rises (suc zero) = omega arith
least-rises (suc (suc h)) = let p = least-rises (suc h) in let q = least-rises h in omega (arith, p, q)

least-more : (g h : ℕ) → g ≤ h → h ≤ g + 1 → least_nodes g ≤ least_nodes h
least-more g h low high = by_difference (h - g) refl
  where
    by_difference : (d : ℕ) → h - g ≡ d → least_nodes g ≤ least_nodes h
    by_difference zero e = let same : g ≡ h = omega (arith, e, low) in subst (λ x. least_nodes g ≤ least_nodes x) same (omega arith)
    by_difference (suc d) e = let next : suc g ≡ h = omega (arith, e, low, high) in subst (λ x. least_nodes g ≤ least_nodes x) next (least-rises g)

-- a side that is the higher one, and the other
least_joined : (g h n m : ℕ) → g ≤ h → h ≤ g + 1 → least_nodes h ≤ n → least_nodes g ≤ m → least_nodes (suc h) ≤ n + suc m
least_joined g zero n m low high few less = omega arith
least_joined g (suc h) n m low high few less =
    let more = least-more h g (omega (arith, high)) (omega (arith, low)) in
    omega (arith, few, less, more)

pub balanced_least : (t : Tree) → IsBalanced t → least_nodes (height t) ≤ length (entries t)
balanced_least Leaf h = omega arith
balanced_least (Node b k v l r) h =
    let on_left = balanced_least l h.2 in
    let on_right = balanced_least r h.3 in
    let p = h.0 in let q = h.1 in
    let long = length-append (entries l) ((k, v) ∷ entries r) in
    elim (nat_total (height l) (height r)) [
      | inl le ↦
          (let high : 1 + max (height l) (height r) ≡ suc (height r) = omega (arith, le) in
          let few = least_joined (height l) (height r) (length (entries r)) (length (entries l)) le q on_right on_left in
          subst (λ x. least_nodes x ≤ length (entries (Node b k v l r))) (sym high) (omega (arith, few, long)))
      | inr le ↦
          (let high : 1 + max (height l) (height r) ≡ suc (height l) = omega (arith, le) in
          let few = least_joined (height r) (height l) (length (entries l)) (length (entries r)) le p on_left on_right in
          subst (λ x. least_nodes x ≤ length (entries (Node b k v l r))) (sym high) (omega (arith, few, long)))
    ]
  where
    nat_total : (m n : ℕ) → (m ≤ n) ⊎ (n ≤ m)
    nat_total m n = elim (cases_lt m n) [ inl lt ↦ inl (omega (arith, lt)) | inr le ↦ inr le ]

least_power : (h : ℕ) → 2 ^ (h / 2) ≤ least_nodes h + 1
least_power zero = omega arith
least_power (suc zero) = omega arith
least_power (suc (suc h)) =
    let p = least_power h in
    let q = least-rises h in
    let half : suc (suc h) / 2 ≡ suc (h / 2) = omega arith in
    subst (λ x. 2 ^ x ≤ least_nodes (suc (suc h)) + 1) (sym half) (rw pow-suc (omega (arith, p, q)))

pub low_heights : HeightsAreLow
low_heights t h =
    let least = balanced_least t h in
    let power = least_power (height t) in
    record { least = least; logarithmic = omega (arith, least, power) }
