-- Words that hold cells, after a write of one of them.
use Rattle.std.proofs.Common.{◌≡◌, ◌≢◌, inl, inr, ℕ, ◌+◌, ◌<◌, ◌≤◌, Bool, true, false, if◌then◌else◌, ◌==◌, nat_lt, Option, Some, None, refl, sym, ◌∙◌, subst, ap, arith, lt-ltb, ltb-true}
use Rattle.std.proofs.lemmas.Bool.Decides.{nat_tests, eqb_tells}
use Rattle.persist_model.specs.Region.{Words}
use Rattle.lane_traits.specs.Space.{Space, IsDataWordOf, put_word, written}
use Rattle.region_layout.specs.FiniteMap.{FiniteMap, lookup, with_pair, without_key}
use Rattle.region_layout.specs.CellsMap.{cell_of, value_or_none, cell_value}
use Rattle.persist_cells.specs.Calls.{Holds, HoldsMap, KeepsOthers}
use Rattle.persist_cells.proofs.Maps.{put_ascends, without_ascends, put_here, put_elsewhere, without_here, without_elsewhere, without_missing, equal_on, equal_off}

pub is_data : (s : Space) (root key : ℕ) → HoldsMap s root → key < 12 → IsDataWordOf s.land (root + 4 + key)
is_data s root key h low = record { block = root; index = 4 + key; own = h.is.root_own; place = omega arith; above = omega arith; below = omega (arith, low) }

pub fits : (s : Space) (root key : ℕ) → HoldsMap s root → root + 16 ≤ 1187872
fits s root key h = h.is.root_own.0.fits

-- the value of a key in the words
pub cell_is : (w : Words) (root key : ℕ) → key < 12 → cell_value w root key ≡ value_or_none (w (cell_of root key))
cell_is w root key low = let on = lt-ltb key 12 low in rw on refl

module _ (w : Words) (root key v : ℕ) where
  pub put_cell_here : cell_value (put_word (cell_of root key) v w) root key ≡ (if nat_lt key 12 then value_or_none v else None)
  put_cell_here = let on = equal_on (cell_of root key) in rw on refl

  pub put_cell_elsewhere : (k : ℕ) → k ≢ key → cell_value (put_word (cell_of root key) v w) root k ≡ cell_value w root k
  put_cell_elsewhere k ne =
      let apart : cell_of root k ≢ cell_of root key = λ e. ne (omega (arith, e)) in
      let off = equal_off (cell_of root k) (cell_of root key) apart in
      rw off refl

value_is : (v : ℕ) → 1 ≤ v → value_or_none v ≡ Some v
value_is v some = let off : (v == 0) ≡ false = grind (arith, nat_tests) in rw off refl

module _ (s : Space) (root key : ℕ) (low : key < 12) where
  low_on : nat_lt key 12 ≡ true
  low_on = lt-ltb key 12 low

  pub put_contents : (v : ℕ) → 1 ≤ v → (m : FiniteMap) → Holds s root m → Holds (written (cell_of root key) v s) root (with_pair key v m)
  put_contents v some m h = record {
    root_own = h.root_own;
    alone = h.alone;
    ascending = put_ascends key v m h.ascending;
    lookup_is = λ k. elim (eqb_tells k key) [
      | inl e ↦ subst (λ j. lookup j (with_pair key v m) ≡ cell_value (put_word (cell_of root key) v s.word) root j) (sym e.1) here
      | inr ne ↦ put_elsewhere k key v m ne.1 ∙ h.lookup_is k ∙ sym (put_cell_elsewhere s.word root key v k ne.1)
    ];
  }
    where
      here : lookup key (with_pair key v m) ≡ cell_value (put_word (cell_of root key) v s.word) root key
      here = put_here key v m ∙ sym (put_cell_here s.word root key v ∙ ap (λ t. if t then value_or_none v else None) low_on ∙ value_is v some)

  pub remove_contents : (m : FiniteMap) → Holds s root m → Holds (written (cell_of root key) 0 s) root (without_key key m)
  remove_contents m h = record {
    root_own = h.root_own;
    alone = h.alone;
    ascending = without_ascends key m h.ascending;
    lookup_is = λ k. elim (eqb_tells k key) [
      | inl e ↦ subst (λ j. lookup j (without_key key m) ≡ cell_value (put_word (cell_of root key) 0 s.word) root j) (sym e.1) here
      | inr ne ↦ without_elsewhere k key m ne.1 ∙ h.lookup_is k ∙ sym (put_cell_elsewhere s.word root key 0 k ne.1)
    ];
  }
    where
      here : lookup key (without_key key m) ≡ cell_value (put_word (cell_of root key) 0 s.word) root key
      here = without_here key m h.ascending ∙ sym (put_cell_here s.word root key 0 ∙ ap (λ t. if t then value_or_none 0 else None) low_on)

  pub others_stay : (v : ℕ) → HoldsMap s root → KeepsOthers s (written (cell_of root key) v s)
  others_stay v h a not_data = elim (eqb_tells a (cell_of root key)) [
    | inl e ↦ absurd (not_data (subst (IsDataWordOf s.land) (sym e.1) (is_data s root key h low)))
    | inr ne ↦ (let off = ne.0 in rw off refl)
  ]

pub put_holds : (s u : Space) (root key : ℕ) → key < 12 → (v : ℕ) → 1 ≤ v → u ≡ written (cell_of root key) v s
    → (m : FiniteMap) → Holds s root m → Holds u root (with_pair key v m)
put_holds s u root key low v some made m h = subst (λ (y : Space). Holds y root (with_pair key v m)) (sym made) (put_contents s root key low v some m h)

pub remove_holds : (s u : Space) (root key : ℕ) → key < 12 → u ≡ written (cell_of root key) 0 s
    → (m : FiniteMap) → Holds s root m → Holds u root (without_key key m)
remove_holds s u root key low made m h = subst (λ (y : Space). Holds y root (without_key key m)) (sym made) (remove_contents s root key low m h)

pub write_keeps : (s u : Space) (root key : ℕ) → key < 12 → (v : ℕ) → HoldsMap s root → u ≡ written (cell_of root key) v s → KeepsOthers s u
write_keeps s u root key low v h made = subst (KeepsOthers s) (sym made) (others_stay s root key low v h)

-- a key without a value
pub nothing_to_remove : (s u : Space) (root key : ℕ) (before : Option ℕ) → u ≡ s → before ≡ None → ((m : FiniteMap) → Holds s root m → before ≡ lookup key m)
    → (m : FiniteMap) → Holds s root m → Holds u root (without_key key m)
nothing_to_remove s u root key before same none is m h =
    subst (λ (y : Space). Holds y root (without_key key m)) (sym same) (subst (λ (n : FiniteMap). Holds s root n) (sym (without_missing key m (sym (is m h) ∙ none))) h)

-- a key with a value is one of the twelve
pub some_is_low : (s : Space) (root key v : ℕ) (before : Option ℕ) → HoldsMap s root → before ≡ Some v → ((m : FiniteMap) → Holds s root m → before ≡ lookup key m) → key < 12
some_is_low s root key v before h some is = step (nat_lt key 12) refl (sym some ∙ is h.contents h.is ∙ h.is.lookup_is key)
  where
    step : (t : Bool) → nat_lt key 12 ≡ t → Some v ≡ (if t then value_or_none (s.word (cell_of root key)) else None) → key < 12
    step true on e = ltb-true key 12 on
    step false off e = absurd (cc)
