-- A structure that owns its root alone, with zeros in it, is the empty map, and so is each structure of a fresh region.
use Rattle.std.proofs.Common.{◌≡◌, inl, ⊎_elim, ℕ, zero, suc, ◌+◌, ◌-◌, ◌*◌, ◌/◌, ◌%◌, ◌<◌, ◌≤◌, Bool, true, false, if◌then◌else◌, ◌==◌, nat_lt, List, [], ◌∷◌, ◌++◌, None, refl, sym, subst, ◌∙◌, ap, arith, ltb-true, lt-ltb, ne_eqb}
use Rattle.std.specs.Prelude.{slice_index}
use Rattle.std.proofs.lemmas.Bool.{cases_lt}
use Rattle.std.proofs.lemmas.Bool.Decides.{nat_tests}
use Rattle.std.proofs.lemmas.List.{get_or_past}
use Rattle.std.proofs.lemmas.List.FromFn.{length-map-range_with_len}
use Rattle.persist_model.specs.Region.{Words}
use Rattle.persist_model.specs.Records.{IsAmong}
use Rattle.persist_model.specs.Chain.{HasNoRepeats}
use Rattle.persist_model.specs.Shape.{Shape, heap, words_of_shape}
use Rattle.lane_traits.specs.Space.{Land, IsOwn}
use Rattle.region_layout.specs.declared.layout.Kind.{Kind}
use Rattle.region_layout.specs.declared.layout.Kind.TheVariants.{Cells, Tree, Hash}
use Rattle.region_layout.specs.Layout.{IsAllowed}
use Rattle.region_layout.specs.Fresh.{root_word, fresh_word, fresh_words}
use Rattle.region_layout.specs.HeapBlocks.{land_of, root_of}
use Rattle.region_layout.specs.CellsMap.{cell_of, value_or_none, cell_value, IsCellsMap}
use Rattle.region_layout.specs.TreeMap.{Leaf, IsTreeMap}
use Rattle.region_layout.specs.HashMap.{CHAINS, Node, Chains, blocks, chain_word, first_link, directories, nodes, reached, IsHashMap}
use Rattle.region_layout.specs.Contents.{IsMapIn}
use Rattle.region_layout.specs.MapLaws.{FreshHoldsEmptyMaps}
use Rattle.region_layout.proofs.Places.{sizes_bounded}
use Rattle.region_layout.proofs.Empty.{are_fresh}

-- The structure owns its root alone, whose data words are 0.
pub record IsEmptyRoot (land : Land) (w : Words) (root : ℕ) : Type 0 where
  pub root_own : IsOwn land root
  pub alone : (b : ℕ) → IsOwn land b → b ≡ root
  pub zeros : (i : ℕ) → 0 < i → i < 16 → w (root + i) ≡ 0

-- ---- it is the empty map of each kind

no_cell : (land : Land) (w : Words) (root : ℕ) → IsEmptyRoot land w root → (key : ℕ) → None ≡ cell_value w root key
no_cell land w root h key = step (nat_lt key 12) refl
  where
    step : (t : Bool) → nat_lt key 12 ≡ t → None ≡ (if t then value_or_none (w (cell_of root key)) else None)
    step true on =
        let low = ltb-true key 12 on in
        let place : root + (4 + key) ≡ cell_of root key = omega arith in
        ap value_or_none (sym (h.zeros (4 + key) (omega arith) (omega (arith, low))) ∙ ap w place)
    step false off = refl

empty_cells : (land : Land) (w : Words) (root : ℕ) → IsEmptyRoot land w root → IsCellsMap land w root []
empty_cells land w root h = record { root_own = h.root_own; alone = h.alone; ascending = tt; lookup_is = no_cell land w root h }

empty_tree : (land : Land) (w : Words) (root : ℕ) → IsEmptyRoot land w root → IsTreeMap land w root []
empty_tree land w root h = record {
  tree = Leaf;
  is = record {
    root_own = h.root_own;
    top_is = h.zeros 1 (omega arith) (omega arith);
    laid = tt;
    own = tt;
    once = (tt, tt);
    all = λ b own. inl (h.alone b own);
    ordered = tt;
    balanced = tt;
    filled = tt;
  };
  entries_are = refl;
}

abbrev no_chains : Chains
no_chains = λ c. []

no_directories : (land : Land) (w : Words) (root : ℕ) → IsEmptyRoot land w root → (n : ℕ) → n ≤ 8 → directories n w root ≡ []
unfolding directories
no_directories land w root h zero few = refl
no_directories land w root h (suc n) few =
    let place : root + (1 + n) ≡ root + 1 + n = omega arith in
    let none : w (root + 1 + n) ≡ 0 = ap w (sym place) ∙ h.zeros (1 + n) (omega arith) (omega (arith, few)) in
    rw none (no_directories land w root h n (omega (arith, few)))

no_nodes : (n : ℕ) → nodes n no_chains ≡ []
unfolding nodes
no_nodes zero = refl
no_nodes (suc n) = no_nodes n

none_reached : (land : Land) (w : Words) (root : ℕ) → IsEmptyRoot land w root → reached w root no_chains ≡ []
unfolding reached
none_reached land w root h =
    ap (λ (ds : List ℕ). ds ++ blocks (nodes CHAINS no_chains)) (no_directories land w root h 8 (omega arith))
    ∙ ap (λ (ns : List Node). blocks ns) (no_nodes 64)

no_link : (land : Land) (w : Words) (root : ℕ) → IsEmptyRoot land w root → (c : ℕ) → c < CHAINS → first_link w root c ≡ 0
no_link land w root h c low =
    let place : root + (1 + c / 8) ≡ root + 1 + c / 8 = omega arith in
    ap (λ d. if d == 0 then 0 else w (chain_word d c)) (ap w (sym place) ∙ h.zeros (1 + c / 8) (omega arith) (omega (arith, low)))

empty_hash : (land : Land) (w : Words) (root : ℕ) → IsEmptyRoot land w root → IsHashMap land w root []
empty_hash land w root h =
    let none = none_reached land w root h in
    record {
      chains = no_chains;
      is = record {
        root_own = h.root_own;
        laid = no_link land w root h;
        own = λ b among. absurd (subst (λ (bs : List ℕ). IsAmong bs b) none among);
        once = subst (λ (bs : List ℕ). HasNoRepeats (root ∷ bs)) (sym none) (tt, tt);
        all = λ b own. inl (h.alone b own);
        in_chain = λ c low. tt;
        keys_once = λ c low. tt;
        filled = λ c low. tt;
      };
      ascending = tt;
      lookup_is = λ key. refl;
    }

pub empty_of : (kind : Kind) (land : Land) (w : Words) (root : ℕ) → IsEmptyRoot land w root → IsMapIn kind land w root []
empty_of Cells land w root h = empty_cells land w root h
empty_of Tree land w root h = empty_tree land w root h
empty_of Hash land w root h = empty_hash land w root h

-- ---- the heap of a fresh region

-- the words of the heap of a fresh region, and 0 past its end
record HasFreshHeap (shape : Shape) (w : Words) : Type 0 where
  inside : (offset : ℕ) → offset < 16 * shape.blocks → w (heap shape + offset) ≡ root_word shape offset
  past : (a : ℕ) → words_of_shape shape ≤ a → w a ≡ 0

else_by : (b : Bool) (x y : ℕ) → b ≡ false → (if b then x else y) ≡ y
else_by true x y e = absurd cc
else_by false x y e = refl

has_fresh_heap : (shape : Shape) (kinds : List Kind) → HasFreshHeap shape (slice_index (fresh_words shape kinds))
unfolding fresh_words
has_fresh_heap shape kinds = record {
  inside = λ offset within. (are_fresh shape kinds).each (heap shape + offset) (omega (arith, within)) ∙ heap_word offset;
  past = λ a past.
      let long = length-map-range_with_len (fresh_word shape kinds) 0 (words_of_shape shape) in
      get_or_past (fresh_words shape kinds) a 0 (omega (arith, long, past));
}
  where
    heap_word : (offset : ℕ) → fresh_word shape kinds (heap shape + offset) ≡ root_word shape offset
    heap_word offset =
        let high : nat_lt (heap shape + offset) 32 ≡ false = grind (arith, nat_tests) in
        let behind : nat_lt (heap shape + offset) (heap shape) ≡ false = grind (arith, nat_tests) in
        let is : heap shape + offset - heap shape ≡ offset = omega arith in
        rw (high, behind, is) refl

root_owner : (shape : Shape) (n : ℕ) → root_word shape (16 * n) ≡ (if nat_lt n shape.structures then n + 1 else 0)
root_owner shape n =
    let whole : 16 * n % 16 ≡ 0 = omega arith in
    let number : 16 * n / 16 ≡ n = omega arith in
    rw (whole, number) refl

owner_is : (shape : Shape) (n s : ℕ) → root_word shape (16 * n) ≡ s + 1 → n ≡ s
owner_is shape n s e = step (nat_lt n shape.structures) (sym (root_owner shape n) ∙ e)
  where
    step : (t : Bool) → (if t then n + 1 else 0) ≡ s + 1 → n ≡ s
    step true h = omega (arith, h)
    step false h = absurd (omega (arith, h))

root_data : (shape : Shape) (n i : ℕ) → 0 < i → i < 16 → root_word shape (16 * n + i) ≡ 0
root_data shape n i some few =
    let part : (16 * n + i) % 16 ≡ i = omega (arith, some, few) in
    let off = ne_eqb i 0 (λ e. omega (arith, e, some)) in
    rw (part, off) refl

fresh_root : (shape : Shape) (w : Words) → IsAllowed shape → HasFreshHeap shape w → (s : ℕ) → s < shape.structures
    → IsEmptyRoot (land_of (heap shape) w s) w (root_of (heap shape) s)
fresh_root shape w allowed fresh s within =
    let few = allowed.structures.1 in
    let many = allowed.blocks.0 in
    let small = sizes_bounded shape allowed in
    let on = lt-ltb s shape.structures within in
    record {
      root_own = (
        record { number = s; place = refl; positive = omega arith; fits = omega (arith, within, few, many, small) },
        fresh.inside (16 * s) (omega (arith, within, few, many)) ∙ root_owner shape s ∙ ap (λ t. if t then s + 1 else 0) on,
      );
      alone = λ b own. let place = own.0.place in
          ⊎_elim
          (λ (low : b < words_of_shape shape). let number = owner_is shape own.0.number s (sym (fresh.inside (16 * own.0.number) (omega (arith, low, place))) ∙ ap w (sym place) ∙ own.1) in
          omega (arith, place, number))
          (λ (past : words_of_shape shape ≤ b). absurd (let none = fresh.past b past in let owned = own.1 in omega (arith, none, owned)))
          (cases_lt b (words_of_shape shape));
      zeros = λ i some low.
          let at : heap shape + (16 * s + i) ≡ root_of (heap shape) s + i = omega arith in
          ap w (sym at) ∙ fresh.inside (16 * s + i) (omega (arith, within, few, many, low)) ∙ root_data shape s i some low;
    }

pub fresh_maps : FreshHoldsEmptyMaps
fresh_maps shape kinds allowed count kind s within =
    let w : Words = slice_index (fresh_words shape kinds) in
    empty_of kind (land_of (heap shape) w s) w (root_of (heap shape) s) (fresh_root shape w allowed (has_fresh_heap shape kinds) s within)
