-- A map of cells in the words of a region, and what a reader of a structure may read.
use Rattle.std.proofs.Common.{◌≡◌, ◌≢◌, ◌⊎◌, inl, inr, ℕ, ◌+◌, ◌*◌, ◌<◌, ◌≤◌, ◌==◌, Bool, true, false, if◌then◌else◌, nat_lt, List, [], ◌∷◌, ◌++◌, length, refl, sym, ◌∙◌, ap, subst, arith, Option, Some, None, slice_index}
use Rattle.std.proofs.lemmas.List.{get_or_past, map-append}
use Rattle.std.proofs.lemmas.Bool.{lt-ltb, le-ltb, cases_lt, eq-eqb}
use Rattle.std.proofs.lemmas.Bool.Decides.{eqb_tells}
use Rattle.persist_model.specs.Region.{Words}
use Rattle.lane_traits.specs.Device.{MAX_WORDS}
use Rattle.lane_traits.specs.Space.{IsOwn, IsDataWordOf}
use Rattle.lane_traits.specs.declared.words.Pair.{Pair}
use Rattle.region_layout.specs.declared.layout.Kind.TheVariants.{Cells}
use Rattle.region_layout.specs.FiniteMap.{FiniteMap, AreAfter, HasAscendingKeys, lookup}
use Rattle.region_layout.specs.HeapBlocks.{land_of, root_of}
use Rattle.region_layout.specs.CellsMap.{cell_of, value_or_none, IsCellsMap}
use Rattle.region_layout.specs.Contents.{IsMap}
use Rattle.image_runner.specs.Maps.{entries_of}
use Rattle.image_runner.specs.Cells.{OwnsRootAlone, with_cell, AreKeysBelow, AreCellsBelow}

-- ---- the sizes of a region

pub size_small : (cells buckets blocks : ℕ) → (cells ≡ 1) ⊎ (cells ≡ 16) → buckets ≤ 1024 → blocks ≤ 65536 → 32 + buckets * (8 + 8 * cells) + 16 * blocks ≤ MAX_WORDS
size_small cells buckets blocks (inl one) few small = subst (λ c. 32 + buckets * (8 + 8 * c) + 16 * blocks ≤ MAX_WORDS) (sym one) (omega arith)
size_small cells buckets blocks (inr many) few small = subst (λ c. 32 + buckets * (8 + 8 * c) + 16 * blocks ≤ MAX_WORDS) (sym many) (omega arith)

-- ---- the blocks of a structure are in the region

module _ (words : List ℕ) (heap structure blocks : ℕ) (size : length words ≡ heap + 16 * blocks) where
  own_below : (b : ℕ) → IsOwn (land_of heap (slice_index words) structure) b → b < length words
  own_below b own = elim (cases_lt b (length words)) [
    | inl lt ↦ lt
    | inr past ↦ absurd (let none = get_or_past words b 0 past in let owner = own.1 in omega (arith, none, owner))
  ]

  own_number : (b : ℕ) (own : IsOwn (land_of heap (slice_index words) structure) b) → own.0.number < blocks
  own_number b own = let place = own.0.place in let lt = own_below b own in omega (arith, size, place, lt)

  -- a data word of its blocks is in the region
  pub data_inside : (a : ℕ) → IsDataWordOf (land_of heap (slice_index words) structure) a → nat_lt a (heap + 16 * blocks) ≡ true
  data_inside a d =
      let place = d.place in
      let below = d.below in
      let at = d.own.0.place in
      let number = own_number d.block d.own in
      lt-ltb a (heap + 16 * blocks) (omega (arith, place, below, at, number))

  pub owns_root : structure < blocks → 0 < heap → length words ≤ MAX_WORDS → OwnsRootAlone heap (slice_index words) structure blocks
      → IsOwn (land_of heap (slice_index words) structure) (root_of heap structure)
  owns_root inside positive fits h = (
    record { number = structure; place = refl; positive = omega arith; fits = omega arith },
    (h structure inside).1 refl,
  )

  pub owns_no_other : OwnsRootAlone heap (slice_index words) structure blocks → (b : ℕ) → IsOwn (land_of heap (slice_index words) structure) b → b ≡ root_of heap structure
  owns_no_other h b own =
      let place = own.0.place in
      let same : own.0.number ≡ structure = (h own.0.number (own_number b own)).0 (ap (slice_index words) (sym place) ∙ own.1) in
      omega (arith, place, same)

  -- a map of cells is so
  pub cells_alone : 0 < heap → length words ≤ MAX_WORDS → IsMap Cells heap (slice_index words) structure → OwnsRootAlone heap (slice_index words) structure blocks
  cells_alone positive fits h k below = (
    (λ owned.
        let own : IsOwn (land_of heap (slice_index words) structure) (heap + 16 * k) = (record { number = k; place = refl; positive = omega arith; fits = omega arith }, owned) in
        let same = h.is.alone (heap + 16 * k) own in
        omega (arith, same)),
    (λ same. ap (λ n. slice_index words (heap + 16 * n)) same ∙ h.is.root_own.1),
  )

-- ---- the pairs of the cells

keys_more : (n : ℕ) (m : FiniteMap) → AreKeysBelow n m → AreKeysBelow (n + 1) m
keys_more n [] h = tt
keys_more n (p ∷ ps) h = (let low = h.0 in omega (arith, low), keys_more n ps h.1)

keys_push : (n v : ℕ) (m : FiniteMap) → AreKeysBelow n m → AreKeysBelow (n + 1) (m ++ (n, v) ∷ [])
keys_push n v [] h = (omega arith, tt)
keys_push n v (p ∷ ps) h = (let low = h.0 in omega (arith, low), keys_push n v ps h.1)

after_push : (key n v : ℕ) (m : FiniteMap) → key < n → AreAfter key m → AreAfter key (m ++ (n, v) ∷ [])
after_push key n v [] lt h = (lt, tt)
after_push key n v (p ∷ ps) lt h = (h.0, after_push key n v ps lt h.1)

ascending_push : (n v : ℕ) (m : FiniteMap) → AreKeysBelow n m → HasAscendingKeys m → HasAscendingKeys (m ++ (n, v) ∷ [])
ascending_push n v [] below h = (tt, tt)
ascending_push n v (p ∷ ps) below h = (after_push p.0 n v ps below.0 h.0, ascending_push n v ps below.1 h.1)

lookup_other : (key n v : ℕ) (m : FiniteMap) → key ≢ n → lookup key (m ++ (n, v) ∷ []) ≡ lookup key m
lookup_other key n v [] other = elim (eqb_tells key n) [
  | inl same ↦ absurd (other same.1)
  | inr differs ↦ ap (λ b. if b then Some v else None) differs.0
]
lookup_other key n v (p ∷ ps) other = ap (λ (rest : Option ℕ). if key == p.0 then Some p.1 else rest) (lookup_other key n v ps other)

lookup_pushed : (key v : ℕ) (m : FiniteMap) → lookup key m ≡ None → lookup key (m ++ (key, v) ∷ []) ≡ Some v
lookup_pushed key v [] none = ap (λ b. if b then Some v else None) (eq-eqb key key refl)
lookup_pushed key v (p ∷ ps) none = by_test (key == p.0) none (λ absent. lookup_pushed key v ps absent)
  where
    by_test : (b : Bool) → (if b then Some p.1 else lookup key ps) ≡ None → (lookup key ps ≡ None → lookup key (ps ++ (key, v) ∷ []) ≡ Some v)
        → (if b then Some p.1 else lookup key (ps ++ (key, v) ∷ [])) ≡ Some v
    by_test true found rest = absurd (cc)
    by_test false absent rest = rest absent

zero_none : (v : ℕ) → v ≡ 0 → value_or_none v ≡ None
zero_none v zero = ap (λ b. if b then None else Some v) (eq-eqb v 0 zero)

some_value : (v : ℕ) → (v == 0) ≡ false → value_or_none v ≡ Some v
some_value v positive = ap (λ b. if b then None else Some v) positive

module _ (n : ℕ) (w : Words) (root : ℕ) (pairs : List Pair) (h : AreCellsBelow n w root pairs) where
  found_below : (key : ℕ) → key < n → lookup key (entries_of pairs) ≡ value_or_none (w (cell_of root key))
  found_below key lt = h.lookup_is key ∙ ap (λ b. if b then value_or_none (w (cell_of root key)) else None) (lt-ltb key n lt)

  none_above : (key : ℕ) → n ≤ key → lookup key (entries_of pairs) ≡ None
  none_above key le = h.lookup_is key ∙ ap (λ b. if b then value_or_none (w (cell_of root key)) else None) (le-ltb key n le)

  wanted_below : (key : ℕ) → key < n + 1 → value_or_none (w (cell_of root key)) ≡ (if nat_lt key (n + 1) then value_or_none (w (cell_of root key)) else None)
  wanted_below key lt = sym (ap (λ b. if b then value_or_none (w (cell_of root key)) else None) (lt-ltb key (n + 1) lt))

  wanted_above : (key : ℕ) → n + 1 ≤ key → None ≡ (if nat_lt key (n + 1) then value_or_none (w (cell_of root key)) else None)
  wanted_above key le = sym (ap (λ b. if b then value_or_none (w (cell_of root key)) else None) (le-ltb key (n + 1) le))

  absent_more : w (cell_of root n) ≡ 0 → AreCellsBelow (n + 1) w root pairs
  absent_more zero = record {
    ascending = h.ascending;
    below = keys_more n (entries_of pairs) h.below;
    lookup_is = λ key. elim (cases_lt key n) [
      | inl lt ↦ found_below key lt ∙ wanted_below key (omega (arith, lt))
      | inr le ↦ elim (cases_lt n key) [
        | inl beyond ↦ none_above key le ∙ wanted_above key (omega (arith, beyond))
        | inr here ↦ (let same : n ≡ key = omega (arith, le, here) in
            none_above key le ∙ sym (zero_none (w (cell_of root key)) (ap (λ k. w (cell_of root k)) (sym same) ∙ zero)) ∙ wanted_below key (omega (arith, same)))
      ]
    ];
  }

  present_more : (w (cell_of root n) == 0) ≡ false → AreCellsBelow (n + 1) w root (pairs ++ record { key = n; value = w (cell_of root n) } ∷ [])
  present_more positive =
      let v : ℕ = w (cell_of root n) in
      let pushed : entries_of (pairs ++ record { key = n; value = w (cell_of root n) } ∷ []) ≡ entries_of pairs ++ (n, w (cell_of root n)) ∷ [] = map-append _ pairs _ in
      record {
        ascending = subst HasAscendingKeys (sym pushed) (ascending_push n (w (cell_of root n)) (entries_of pairs) h.below h.ascending);
        below = subst (AreKeysBelow (n + 1)) (sym pushed) (keys_push n (w (cell_of root n)) (entries_of pairs) h.below);
        lookup_is = λ key. ap (lookup key) pushed ∙ elim (eqb_tells key n) [
          | inl same ↦ (let e : n ≡ key = sym same.1 in
              subst (λ k. lookup k (entries_of pairs ++ (n, w (cell_of root n)) ∷ []) ≡ (if nat_lt k (n + 1) then value_or_none (w (cell_of root k)) else None)) e
              (lookup_pushed n (w (cell_of root n)) (entries_of pairs) (none_above n (omega arith)) ∙ sym (some_value (w (cell_of root n)) positive) ∙ wanted_below n (omega arith)))
          | inr differs ↦ lookup_other key n (w (cell_of root n)) (entries_of pairs) differs.1 ∙ elim (cases_lt key n) [
            | inl lt ↦ found_below key lt ∙ wanted_below key (omega (arith, lt))
            | inr le ↦ none_above key le ∙ wanted_above key (let ne = differs.1 in omega (arith, le, ne))
          ]
        ];
      }

  pub cells_more : AreCellsBelow (n + 1) w root (with_cell n (w (cell_of root n)) pairs)
  cells_more = elim (eqb_tells (w (cell_of root n)) 0) [
    | inl zero ↦ subst (λ b. AreCellsBelow (n + 1) w root (if b then pairs else pairs ++ record { key = n; value = w (cell_of root n) } ∷ [])) (sym zero.0) (absent_more zero.1)
    | inr positive ↦ subst (λ b. AreCellsBelow (n + 1) w root (if b then pairs else pairs ++ record { key = n; value = w (cell_of root n) } ∷ [])) (sym positive.0) (present_more positive.0)
  ]

pub no_cells : (w : Words) (root : ℕ) → AreCellsBelow 0 w root []
no_cells w root = record {
  ascending = tt;
  below = tt;
  lookup_is = λ key. sym (ap (λ b. if b then value_or_none (w (cell_of root key)) else None) (le-ltb key 0 (omega arith)));
}

-- all twelve, of a structure that owns its root alone
pub is_cells_map : (heap structure : ℕ) (w : Words) (pairs : List Pair) → IsOwn (land_of heap w structure) (root_of heap structure)
    → ((b : ℕ) → IsOwn (land_of heap w structure) b → b ≡ root_of heap structure) → AreCellsBelow 12 w (root_of heap structure) pairs
    → IsCellsMap (land_of heap w structure) w (root_of heap structure) (entries_of pairs)
is_cells_map heap structure w pairs root alone cells = record { root_own = root; alone = alone; ascending = cells.ascending; lookup_is = cells.lookup_is }
