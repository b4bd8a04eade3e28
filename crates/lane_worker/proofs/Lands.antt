-- A map stays where its structure's blocks, and the words in them, are the same in another land.
use Rattle.std.proofs.Common.{◌≡◌, inl, inr, ⊎_elim, ℕ, ◌+◌, ◌/◌, ◌%◌, ◌<◌, true, false, Bool, if◌then◌else◌, nat_lt, None, refl, sym, subst, ◌∙◌, ap, arith, ltb-true}
use Rattle.persist_model.specs.Region.{Words}
use Rattle.persist_model.specs.Records.{IsAmong}
use Rattle.lane_traits.specs.Space.{Land, Start, IsOwn}
use Rattle.region_layout.specs.declared.layout.Kind.{Kind}
use Rattle.region_layout.specs.declared.layout.Kind.TheVariants.{Cells, Tree, Hash}
use Rattle.region_layout.specs.FiniteMap.{FiniteMap}
use Rattle.region_layout.specs.CellsMap.{cell_of, value_or_none, cell_value, IsCellsMap}
use Rattle.region_layout.specs.TreeMap as trees
use Rattle.region_layout.specs.HashMap.{Chains, IsChain, IsHashMap, blocks, directory_of, chain_word, first_link}
use Rattle.region_layout.specs.Contents.{IsMapIn}
use Rattle.persist_tree.proofs.Nodes.{EachNode-weaker}
use Rattle.persist_hash.proofs.ChainLaws.{chain_kept}
use Rattle.persist_hash.proofs.Blocks.{IsPlaced, placed_of, of_placed}
use Rattle.persist_hash.proofs.Changing.{first_kept}
use Rattle.persist_hash.proofs.Places.{index_below}

-- a structure's land, by the owner of each block
abbrev pub land_with : ℕ → ℕ → (ℕ → ℕ) → Start → Land
land_with heap structure owner start = record { heap = heap; structure = structure; owner = owner; start = start }

-- the structure's blocks are the same, with the same words in them
pub record OwnsSame (heap structure : ℕ) (o p : ℕ → ℕ) (s r : Start) (w u : Words) : Type 0 where
  pub owned : (b : ℕ) → IsOwn (land_with heap structure o s) b → p b ≡ structure + 1
  pub owned_back : (b : ℕ) → IsOwn (land_with heap structure p r) b → o b ≡ structure + 1
  pub words : (b i : ℕ) → IsOwn (land_with heap structure o s) b → 0 < i → i < 16 → u (b + i) ≡ w (b + i)

module _ (heap structure : ℕ) (o p : ℕ → ℕ) (s r : Start) (w u : Words) (alike : OwnsSame heap structure o p s r w u) where
  there : (b : ℕ) → IsOwn (land_with heap structure o s) b → IsOwn (land_with heap structure p r) b
  there b own = (record { number = own.0.number; place = own.0.place; positive = own.0.positive; fits = own.0.fits }, alike.owned b own)

  back : (b : ℕ) → IsOwn (land_with heap structure p r) b → IsOwn (land_with heap structure o s) b
  back b own = (record { number = own.0.number; place = own.0.place; positive = own.0.positive; fits = own.0.fits }, alike.owned_back b own)

  -- ---- cells

  cell_same : (root : ℕ) → IsOwn (land_with heap structure o s) root → (key : ℕ) → cell_value w root key ≡ cell_value u root key
  cell_same root own key = step (nat_lt key 12) refl
    where
      step : (t : Bool) → nat_lt key 12 ≡ t → (if t then value_or_none (w (cell_of root key)) else None) ≡ (if t then value_or_none (u (cell_of root key)) else None)
      step true on =
          let low = ltb-true key 12 on in
          let place : root + (4 + key) ≡ cell_of root key = omega arith in
          ap value_or_none (ap w (sym place) ∙ sym (alike.words root (4 + key) own (omega arith) (omega (arith, low))) ∙ ap u place)
      step false off = refl

  cells_same : (root : ℕ) (m : FiniteMap) → IsCellsMap (land_with heap structure o s) w root m → IsCellsMap (land_with heap structure p r) u root m
  cells_same root m h = record {
    root_own = there root h.root_own;
    alone = λ b own. h.alone b (back b own);
    ascending = h.ascending;
    lookup_is = λ key. h.lookup_is key ∙ cell_same root h.root_own key;
  }

  -- ---- a tree

  laid_same : (t : trees.Tree) → trees.AreOwn (land_with heap structure o s) t → trees.IsLaid w t → trees.IsLaid u t
  laid_same trees.Leaf own laid = tt
  laid_same (trees.Node b k v l m) own laid = (
    record {
      key = alike.words b 1 own.0 (omega arith) (omega arith) ∙ laid.0.key;
      value = alike.words b 2 own.0 (omega arith) (omega arith) ∙ laid.0.value;
      left_is = alike.words b 3 own.0 (omega arith) (omega arith) ∙ laid.0.left_is;
      right_is = alike.words b 4 own.0 (omega arith) (omega arith) ∙ laid.0.right_is;
      height_is = alike.words b 5 own.0 (omega arith) (omega arith) ∙ laid.0.height_is;
    },
    laid_same l own.1 laid.1,
    laid_same m own.2 laid.2,
  )

  tree_same : (root : ℕ) (t : trees.Tree) → trees.IsTree (land_with heap structure o s) w root t → trees.IsTree (land_with heap structure p r) u root t
  tree_same root t h = record {
    root_own = there root h.root_own;
    top_is = alike.words root 1 h.root_own (omega arith) (omega arith) ∙ h.top_is;
    laid = laid_same t h.own h.laid;
    own = EachNode-weaker (λ b k v. IsOwn (land_with heap structure o s) b) (λ b k v. IsOwn (land_with heap structure p r) b) (λ b k v x. there b x) t h.own;
    once = h.once;
    all = λ b own. h.all b (back b own);
    ordered = h.ordered;
    balanced = h.balanced;
    filled = h.filled;
  }

  trees_same : (root : ℕ) (m : FiniteMap) → trees.IsTreeMap (land_with heap structure o s) w root m → trees.IsTreeMap (land_with heap structure p r) u root m
  trees_same root m h = record { tree = h.tree; is = tree_same root h.tree h.is; entries_are = h.entries_are }

  -- ---- a hash

  root_word : (root d : ℕ) → IsOwn (land_with heap structure o s) root → d < 8 → u (root + 1 + d) ≡ w (root + 1 + d)
  root_word root d own lt =
      let place : root + (1 + d) ≡ root + 1 + d = omega arith in
      ap u (sym place) ∙ alike.words root (1 + d) own (omega arith) (omega (arith, lt)) ∙ ap w place

  link_word : (root c : ℕ) → IsOwn (land_with heap structure o s) (directory_of w root c) → u (chain_word (directory_of w root c) c) ≡ w (chain_word (directory_of w root c) c)
  link_word root c own =
      let place : directory_of w root c + (1 + c % 8) ≡ chain_word (directory_of w root c) c = omega arith in
      ap u (sym place) ∙ alike.words (directory_of w root c) (1 + c % 8) own (omega arith) (omega arith) ∙ ap w place

  placed_same : (root : ℕ) (chains : Chains) → IsPlaced (land_with heap structure o s) w root chains → IsPlaced (land_with heap structure p r) u root chains
  placed_same root chains h = record {
    root_own = there root h.root_own;
    laid = λ c lt. subst (λ l. IsChain u l (chains c)) (sym (first_kept w u root c (root_word root (c / 8) h.root_own (index_below c lt)) (λ some. link_word root c (h.own_directory (c / 8) (index_below c lt) some))))
        (chain_kept w u (first_link w root c) (chains c) (λ b i k pos small. alike.words b i (h.own_node c b lt k) pos (omega (arith, small))) (h.laid c lt));
    own_directory = λ d lt some. subst (IsOwn (land_with heap structure p r)) (sym (root_word root d h.root_own lt)) (there (w (root + 1 + d)) (h.own_directory d lt (λ z. some (root_word root d h.root_own lt ∙ z))));
    own_node = λ c b lt k. there b (h.own_node c b lt k);
    root_no_directory = λ d lt e. h.root_no_directory d lt (sym (root_word root d h.root_own lt) ∙ e);
    root_no_node = h.root_no_node;
    directories_once = λ d e ld le ne some same. h.directories_once d e ld le ne (λ z. some (root_word root d h.root_own ld ∙ z)) (sym (root_word root d h.root_own ld) ∙ same ∙ root_word root e h.root_own le);
    directory_no_node = λ d c ld lc k. h.directory_no_node d c ld lc (subst (IsAmong (blocks (chains c))) (root_word root d h.root_own ld) k);
    nodes_once = h.nodes_once;
    nodes_apart = h.nodes_apart;
    all = λ b own. ⊎_elim (λ e. inl e) (λ at. inr (⊎_elim
        (λ d. inl (record { index = d.index; below = d.below; named = root_word root d.index h.root_own d.below ∙ d.named; positive = d.positive }))
        (λ n. inr n) at)) (h.all b (back b own));
    in_chain = h.in_chain;
    keys_once = h.keys_once;
    filled = h.filled;
  }

  hash_same : (root : ℕ) (m : FiniteMap) → IsHashMap (land_with heap structure o s) w root m → IsHashMap (land_with heap structure p r) u root m
  hash_same root m h = record {
    chains = h.chains;
    is = of_placed (land_with heap structure p r) u root h.chains (placed_same root h.chains (placed_of (land_with heap structure o s) w root h.chains h.is));
    ascending = h.ascending;
    lookup_is = h.lookup_is;
  }

  pub map_same : (kind : Kind) (root : ℕ) (m : FiniteMap) → IsMapIn kind (land_with heap structure o s) w root m → IsMapIn kind (land_with heap structure p r) u root m
  map_same Cells root m h = cells_same root m h
  map_same Tree root m h = trees_same root m h
  map_same Hash root m h = hash_same root m h
