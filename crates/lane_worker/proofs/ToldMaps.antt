-- Words that hold a map, whatever it is, tell it: which it is can be read of them.
use Rattle.std.proofs.Common.{◌≡◌, ℕ, zero, suc, ◌+◌, ◌-◌, ◌/◌, ◌<◌, ◌≤◌, Bool, true, false, if◌then◌else◌, ◌==◌, nat_lt, List, [], ◌∷◌, ◌++◌, Option, refl, sym, subst, ◌∙◌, ap, arith, ltb-true, lt-ltb}
use Rattle.std.proofs.Props.{props}
use Rattle.std.proofs.Math.Logic.{∥∥₁_map, ∥∥₁_elim, ∥∥₁_prop}
use Rattle.std.proofs.Math.Nat.{ℕ_set}
use Rattle.std.proofs.Math.Path.{Σ_path, to_path_p}
use Rattle.std.proofs.lemmas.Bool.Decides.{nat_tests}
use Rattle.std.specs.Coded.{Coded-set, coded_ℕ, coded_bool, coded_option, coded_list, coded×, code_by, le_prop}
use Rattle.persist_model.specs.Region.{Words}
use Rattle.persist_model.specs.Records.{IsAmong}
use Rattle.persist_model.specs.Chain.{HasNoRepeats}
use Rattle.lane_traits.specs.Space.{Land, IsOwn}
use Rattle.lane_traits.specs.DraftLaws.{HasNoRepeats-prop, of_among}
use Rattle.lane_traits.proofs.Among.{among_of}
use Rattle.region_layout.specs.declared.layout.Kind.{Kind}
use Rattle.region_layout.specs.declared.layout.Kind.TheVariants.{Cells, Tree, Hash}
use Rattle.region_layout.specs.FiniteMap.{FiniteMap, lookup, AreAfter, HasAscendingKeys}
use Rattle.region_layout.specs.HeapBlocks.{land_of, root_of}
use Rattle.region_layout.specs.Contents.{IsMapOf}
use Rattle.region_layout.specs.CellsMap.{IsCellsMap}
use Rattle.region_layout.specs.TreeMap as tree
use Rattle.region_layout.specs.HashMap as hash
use Rattle.persist_tree.proofs.Lawful.{positive_of}
use Rattle.persist_hash.specs.Chains.{AreOwnNodes}
use Rattle.persist_hash.proofs.ChainLaws.{chain_once}
use Rattle.persist_hash.proofs.Places.{own_chain, chain_below}
use Rattle.map_deeds.specs.Depending.{one_map}

-- ---- what is one is told

module _ {A : Type 0} (flat : (a b : A) (p q : a ≡ b) → p ≡ q) (P : A → Type 0) (one : (a b : A) → P a → P b → a ≡ b) where
  one_told : (x y : (a : A) × ∥ P a ∥₁) → x ≡ y
  one_told x y =
      let same : x.0 ≡ y.0 = ∥∥₁_elim x.1 (flat x.0 y.0) (λ p. ∥∥₁_elim y.1 (flat x.0 y.0) (λ q. one x.0 y.0 p q)) in
      Σ_path {B = λ a. ∥ P a ∥₁} {u = x} {v = y} same (to_path_p (λ i. ∥ P (same i) ∥₁) (∥∥₁_prop _ _))

  pub told : ∥ ((a : A) × P a) ∥₁ → (a : A) × ∥ P a ∥₁
  told some = ∥∥₁_elim some one_told (λ x. (x.0, ∣ x.1 ∣₁))

-- ---- facts

maps_flat : (m n : FiniteMap) (p q : m ≡ n) → p ≡ q
maps_flat m n = Coded-set (coded_list (coded× coded_ℕ coded_ℕ)) m n

value_flat : (m n : Option ℕ) (p q : m ≡ n) → p ≡ q
value_flat m n = Coded-set (coded_option coded_ℕ) m n

test_flat : (s t : Bool) (p q : s ≡ t) → p ≡ q
test_flat s t = Coded-set coded_bool s t

among_told : (xs : List ℕ) (b : ℕ) → ∥ IsAmong xs b ∥₁ → IsAmong xs b
among_told xs b some = among_of xs b (∥∥₁_elim some (test_flat _ _) (λ m. of_among xs b m))

own_told : (land : Land) (b : ℕ) → ∥ IsOwn land b ∥₁ → IsOwn land b
own_told land b some = (
  record {
    number = (b - land.heap) / 16;
    place = ∥∥₁_elim some (ℕ_set _ _) (λ own. let place = own.0.place in omega (arith, place));
    positive = ∥∥₁_elim some le_prop (λ own. own.0.positive);
    fits = ∥∥₁_elim some le_prop (λ own. own.0.fits);
  },
  ∥∥₁_elim some (ℕ_set _ _) (λ own. own.1),
)

after_prop : (key : ℕ) (m : FiniteMap) → IsProp (AreAfter key m)
after_prop key [] = hlevel props
after_prop key (p ∷ ps) = hlevel (props, after_prop key ps)

ascending_prop : (m : FiniteMap) → IsProp (HasAscendingKeys m)
ascending_prop [] = hlevel props
ascending_prop (p ∷ ps) = hlevel (props, after_prop p.0 ps, ascending_prop ps)

-- ---- cells

cells_told : (land : Land) (w : Words) (root : ℕ) (m : FiniteMap) → ∥ IsCellsMap land w root m ∥₁ → IsCellsMap land w root m
cells_told land w root m some = record {
  root_own = own_told land root (∥∥₁_map some (λ h. h.root_own));
  alone = λ b own. ∥∥₁_elim some (ℕ_set _ _) (λ h. h.alone b own);
  ascending = ∥∥₁_elim some (ascending_prop m) (λ h. h.ascending);
  lookup_is = λ key. ∥∥₁_elim some (value_flat _ _) (λ h. h.lookup_is key);
}

-- ---- trees

-- the tree that hangs at a, of no more than n levels
read_tree : ℕ → Words → ℕ → tree.Tree
read_tree zero w a = tree.Leaf
read_tree (suc n) w a = if a == 0 then tree.Leaf else tree.Node a (w (a + 1)) (w (a + 2)) (read_tree n w (w (a + 3))) (read_tree n w (w (a + 4)))

read_laid : (n : ℕ) (w : Words) (t : tree.Tree) → tree.EachNode (λ b k v. 0 < b) t → tree.IsLaid w t → tree.height t ≤ n → read_tree n w (tree.top t) ≡ t
unfolding read_tree
read_laid zero w tree.Leaf some laid low = refl
read_laid zero w (tree.Node b k v l r) some laid low = absurd (omega (arith, low))
read_laid (suc n) w tree.Leaf some laid low = refl
read_laid (suc n) w (tree.Node b k v l r) some laid low =
    let off : (b == 0) ≡ false = (let p = some.0 in grind (arith, nat_tests)) in
    let left : read_tree n w (w (b + 3)) ≡ l = ap (read_tree n w) laid.0.left_is ∙ read_laid n w l some.1 laid.1 (omega (arith, low)) in
    let right : read_tree n w (w (b + 4)) ≡ r = ap (read_tree n w) laid.0.right_is ∙ read_laid n w r some.2 laid.2 (omega (arith, low)) in
    rw off (λ i. tree.Node b (laid.0.key i) (laid.0.value i) (left i) (right i))

-- the tree that hangs at the root, whose top node tells its height
abbrev tree_at : Words → ℕ → tree.Tree
tree_at w root = read_tree (w (w (root + 1) + 5)) w (w (root + 1))

is_read : (w : Words) (t : tree.Tree) → tree.EachNode (λ b k v. 0 < b) t → tree.IsLaid w t → read_tree (w (tree.top t + 5)) w (tree.top t) ≡ t
is_read w tree.Leaf some laid = read_laid (w 5) w tree.Leaf some laid (omega arith)
is_read w (tree.Node b k v l r) some laid = read_laid (w (b + 5)) w (tree.Node b k v l r) some laid (let e = laid.0.height_is in omega (arith, e))

tree_is : (land : Land) (w : Words) (root : ℕ) (t : tree.Tree) → tree.IsTree land w root t → tree_at w root ≡ t
tree_is land w root t h = subst (λ a. read_tree (w (a + 5)) w a ≡ t) (sym h.top_is) (is_read w t (positive_of land t h.own) h.laid)

laid_prop : (w : Words) (t : tree.Tree) → IsProp (tree.IsLaid w t)
laid_prop w tree.Leaf = hlevel props
laid_prop w (tree.Node b k v l r) = hlevel (props, laid_prop w l, laid_prop w r)

below_prop : (m : ℕ) (t : tree.Tree) → IsProp (tree.AreBelow m t)
below_prop m tree.Leaf = hlevel props
below_prop m (tree.Node b k v l r) = hlevel (props, below_prop m l, below_prop m r)

above_prop : (m : ℕ) (t : tree.Tree) → IsProp (tree.AreAbove m t)
above_prop m tree.Leaf = hlevel props
above_prop m (tree.Node b k v l r) = hlevel (props, above_prop m l, above_prop m r)

filled_prop : (t : tree.Tree) → IsProp (tree.AreFilled t)
filled_prop tree.Leaf = hlevel props
filled_prop (tree.Node b k v l r) = hlevel (props, filled_prop l, filled_prop r)

ordered_prop : (t : tree.Tree) → IsProp (tree.IsOrdered t)
ordered_prop tree.Leaf = hlevel props
ordered_prop (tree.Node b k v l r) = hlevel (props, below_prop k l, above_prop k r, ordered_prop l, ordered_prop r)

balanced_prop : (t : tree.Tree) → IsProp (tree.IsBalanced t)
balanced_prop tree.Leaf = hlevel props
balanced_prop (tree.Node b k v l r) = hlevel (props, balanced_prop l, balanced_prop r)

nodes_told : (land : Land) (t : tree.Tree) → ∥ tree.AreOwn land t ∥₁ → tree.AreOwn land t
nodes_told land tree.Leaf some = tt
nodes_told land (tree.Node b k v l r) some = (
  own_told land b (∥∥₁_map some (λ h. h.0)),
  nodes_told land l (∥∥₁_map some (λ h. h.1)),
  nodes_told land r (∥∥₁_map some (λ h. h.2)),
)

tree_told : (land : Land) (w : Words) (root : ℕ) (t : tree.Tree) → ∥ tree.IsTree land w root t ∥₁ → tree.IsTree land w root t
tree_told land w root t some = record {
  root_own = own_told land root (∥∥₁_map some (λ h. h.root_own));
  top_is = ∥∥₁_elim some (ℕ_set _ _) (λ h. h.top_is);
  laid = ∥∥₁_elim some (laid_prop w t) (λ h. h.laid);
  own = nodes_told land t (∥∥₁_map some (λ h. h.own));
  once = ∥∥₁_elim some (HasNoRepeats-prop (root ∷ tree.blocks t)) (λ h. h.once);
  all = λ b own. among_told (root ∷ tree.blocks t) b (∥∥₁_map some (λ h. h.all b own));
  ordered = ∥∥₁_elim some (ordered_prop t) (λ h. h.ordered);
  balanced = ∥∥₁_elim some (balanced_prop t) (λ h. h.balanced);
  filled = ∥∥₁_elim some (filled_prop t) (λ h. h.filled);
}

trees_told : (land : Land) (w : Words) (root : ℕ) (m : FiniteMap) → ∥ tree.IsTreeMap land w root m ∥₁ → tree.IsTreeMap land w root m
trees_told land w root m some = record {
  tree = tree_at w root;
  is = tree_told land w root (tree_at w root) (∥∥₁_map some (λ h. subst (tree.IsTree land w root) (sym (tree_is land w root h.tree h.is)) h.is));
  entries_are = ∥∥₁_elim some (maps_flat _ _) (λ h. h.entries_are ∙ ap tree.entries (sym (tree_is land w root h.tree h.is)));
}

-- ---- hashes

node_of : ℕ × (ℕ × ℕ) → hash.Node
node_of x = record { block = x.0; key = x.1.0; value = x.1.1 }

parts_of : hash.Node → ℕ × (ℕ × ℕ)
parts_of n = (n.block, (n.key, n.value))

chains_flat : (ns ms : List hash.Node) (p q : ns ≡ ms) → p ≡ q
unfolding node_of parts_of
chains_flat ns ms = Coded-set (coded_list (code_by (ℕ × (ℕ × ℕ)) (coded× coded_ℕ (coded× coded_ℕ coded_ℕ)) parts_of node_of (λ n. refl))) ns ms

module _ (land : Land) (w : Words) (root : ℕ) where
  -- a chain, by its number
  record IsChainAt (c : ℕ) (ns : List hash.Node) : Type 0 where
    own : AreOwnNodes land ns
    laid : hash.IsChain w (hash.first_link w root c) ns

  one_chain : (c : ℕ) (ns ms : List hash.Node) → IsChainAt c ns → IsChainAt c ms → ns ≡ ms
  one_chain c ns ms h k = chain_once land w (hash.first_link w root c) ns ms h.own k.own h.laid k.laid

  at_chain : (chains : hash.Chains) → hash.IsHash land w root chains → (c : ℕ) → c < 64 → IsChainAt c (chains c)
  at_chain chains h c lt = record { own = own_chain land w root chains c h lt; laid = h.laid c lt }

  module _ (some : ∥ ((chains : hash.Chains) × hash.IsHash land w root chains) ∥₁) where
    chain_told : (c : ℕ) → c < 64 → (ns : List hash.Node) × ∥ IsChainAt c ns ∥₁
    chain_told c lt = told chains_flat (IsChainAt c) (one_chain c) (∥∥₁_map some (λ h. (h.0 c, at_chain h.0 h.1 c lt)))

    chain_by : (c : ℕ) (t : Bool) → nat_lt c 64 ≡ t → List hash.Node
    chain_by c true on = (chain_told c (ltb-true c 64 on)).0
    chain_by c false off = []

    pub told_chains : hash.Chains
    told_chains c = chain_by c (nat_lt c 64) refl

    by_same : (chains : hash.Chains) → hash.IsHash land w root chains → (c : ℕ) (t : Bool) (is : nat_lt c 64 ≡ t) → c < 64 → chain_by c t is ≡ chains c
    unfolding chain_by
    by_same chains h c true on lt = ∥∥₁_elim (chain_told c (ltb-true c 64 on)).1 (chains_flat _ _)
        (λ k. one_chain c (chain_told c (ltb-true c 64 on)).0 (chains c) k (at_chain chains h c lt))
    by_same chains h c false off lt = absurd (let on = lt-ltb c 64 lt in let e : true ≡ false = sym on ∙ off in cc)

    told_same : (chains : hash.Chains) → hash.IsHash land w root chains → (c : ℕ) → c < 64 → told_chains c ≡ chains c
    unfolding told_chains
    told_same chains h c lt = by_same chains h c (nat_lt c 64) refl lt

nodes_same : (n : ℕ) (chains others : hash.Chains) → ((c : ℕ) → c < n → others c ≡ chains c) → hash.nodes n others ≡ hash.nodes n chains
unfolding hash.nodes
nodes_same zero chains others same = refl
nodes_same (suc n) chains others same = (λ i. same n (omega arith) i ++ nodes_same n chains others (λ c lt. same c (omega (arith, lt))) i)

reached_same : (w : Words) (root : ℕ) (chains others : hash.Chains) → ((c : ℕ) → c < 64 → others c ≡ chains c) → hash.reached w root others ≡ hash.reached w root chains
unfolding hash.reached
reached_same w root chains others same = ap (λ ns. hash.directories 8 w root ++ hash.blocks ns) (nodes_same 64 chains others same)

hash_same : (land : Land) (w : Words) (root : ℕ) (chains others : hash.Chains) → ((c : ℕ) → c < 64 → others c ≡ chains c) → hash.IsHash land w root chains → hash.IsHash land w root others
hash_same land w root chains others same h =
    let reached_is = reached_same w root chains others same in
    record {
      root_own = h.root_own;
      laid = λ c lt. subst (hash.IsChain w (hash.first_link w root c)) (sym (same c lt)) (h.laid c lt);
      own = λ b m. h.own b (subst (λ bs. IsAmong bs b) reached_is m);
      once = subst (λ bs. HasNoRepeats (root ∷ bs)) (sym reached_is) h.once;
      all = λ b own. subst (λ bs. IsAmong (root ∷ bs) b) (sym reached_is) (h.all b own);
      in_chain = λ c lt. subst (hash.EachNode (λ n. hash.chain_number n.key ≡ c)) (sym (same c lt)) (h.in_chain c lt);
      keys_once = λ c lt. subst (λ ns. HasNoRepeats (hash.keys ns)) (sym (same c lt)) (h.keys_once c lt);
      filled = λ c lt. subst (hash.EachNode (λ n. 1 ≤ n.value)) (sym (same c lt)) (h.filled c lt);
    }

links_prop : (w : Words) (link : ℕ) (ns : List hash.Node) → IsProp (hash.IsChain w link ns)
links_prop w link [] = hlevel props
links_prop w link (n ∷ ns) = hlevel (props, links_prop w (w (n.block + 3)) ns)

numbers_prop : (c : ℕ) (ns : List hash.Node) → IsProp (hash.EachNode (λ n. hash.chain_number n.key ≡ c) ns)
numbers_prop c [] = hlevel props
numbers_prop c (n ∷ ns) = hlevel (props, numbers_prop c ns)

values_prop : (ns : List hash.Node) → IsProp (hash.EachNode (λ n. 1 ≤ n.value) ns)
values_prop [] = hlevel props
values_prop (n ∷ ns) = hlevel (props, values_prop ns)

hash_told : (land : Land) (w : Words) (root : ℕ) (chains : hash.Chains) → ∥ hash.IsHash land w root chains ∥₁ → hash.IsHash land w root chains
hash_told land w root chains some = record {
  root_own = own_told land root (∥∥₁_map some (λ h. h.root_own));
  laid = λ c lt. ∥∥₁_elim some (links_prop w (hash.first_link w root c) (chains c)) (λ h. h.laid c lt);
  own = λ b m. own_told land b (∥∥₁_map some (λ h. h.own b m));
  once = ∥∥₁_elim some (HasNoRepeats-prop (root ∷ hash.reached w root chains)) (λ h. h.once);
  all = λ b own. among_told (root ∷ hash.reached w root chains) b (∥∥₁_map some (λ h. h.all b own));
  in_chain = λ c lt. ∥∥₁_elim some (numbers_prop c (chains c)) (λ h. h.in_chain c lt);
  keys_once = λ c lt. ∥∥₁_elim some (HasNoRepeats-prop (hash.keys (chains c))) (λ h. h.keys_once c lt);
  filled = λ c lt. ∥∥₁_elim some (values_prop (chains c)) (λ h. h.filled c lt);
}

hashes_told : (land : Land) (w : Words) (root : ℕ) (m : FiniteMap) → ∥ hash.IsHashMap land w root m ∥₁ → hash.IsHashMap land w root m
hashes_told land w root m some =
    let known : ∥ ((chains : hash.Chains) × hash.IsHash land w root chains) ∥₁ = ∥∥₁_map some (λ h. (h.chains, h.is)) in
    record {
      chains = told_chains land w root known;
      is = hash_told land w root (told_chains land w root known)
          (∥∥₁_map some (λ h. hash_same land w root h.chains (told_chains land w root known) (λ c lt. told_same land w root known h.chains h.is c lt) h.is));
      ascending = ∥∥₁_elim some (ascending_prop m) (λ h. h.ascending);
      lookup_is = λ key. ∥∥₁_elim some (value_flat _ _) (λ h. h.lookup_is key
          ∙ ap (λ ns. lookup key (hash.pairs ns)) (sym (told_same land w root known h.chains h.is (hash.chain_number key) (chain_below key))));
    }

-- ---- any kind

kind_told : (kind : Kind) (heap : ℕ) (w : Words) (s : ℕ) (m : FiniteMap) → ∥ IsMapOf kind heap w s m ∥₁ → IsMapOf kind heap w s m
kind_told Cells heap w s m some = cells_told (land_of heap w s) w (root_of heap s) m some
kind_told Tree heap w s m some = trees_told (land_of heap w s) w (root_of heap s) m some
kind_told Hash heap w s m some = hashes_told (land_of heap w s) w (root_of heap s) m some

-- The structure's contents, where it has some.
pub map_told : (kind : Kind) (heap : ℕ) (w : Words) (s : ℕ) → ∥ ((m : FiniteMap) × IsMapOf kind heap w s m) ∥₁ → (m : FiniteMap) × IsMapOf kind heap w s m
map_told kind heap w s some =
    let known = told maps_flat (IsMapOf kind heap w s) (λ m n h k. one_map kind heap w s m n h k) some in
    (known.0, kind_told kind heap w s known.0 known.1)
