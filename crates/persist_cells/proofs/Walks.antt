-- The entries of cells, key by key.
use Rattle.std.proofs.Common.{◌≡◌, ◌≢◌, ◌⊎◌, inl, inr, ℕ, zero, suc, ◌+◌, ◌<◌, ◌≤◌, Bool, true, false, if◌then◌else◌, ◌==◌, nat_lt, List, [], map, ◌++◌, ◌∷◌, Some, None, refl, sym, ◌∙◌, subst, ap, arith, add-one}
use Rattle.std.proofs.lemmas.Bool.Decides.{nat_tests, eqb_tells}
use Rattle.persist_model.specs.Region.{Words}
use Rattle.lane_traits.specs.Space.{Land, Space}
use Rattle.lane_traits.specs.declared.words.Pair.{Pair}
use Rattle.region_layout.specs.FiniteMap.{FiniteMap, lookup, AreAfter, HasAscendingKeys}
use Rattle.region_layout.specs.CellsMap.{IsCellsMap, cell_of, value_or_none}
use Rattle.region_layout.proofs.FiniteMaps.{same_entries}
use Rattle.persist_cells.specs.Calls.{entry_of, entry_if}
use Rattle.persist_cells.proofs.Maps.{equal_on, equal_off}

-- the entries of the keys below n
unfoldable pub entries_below : Words → ℕ → ℕ → FiniteMap
entries_below w root zero = []
entries_below w root (suc n) = entries_below w root n ++ entry_if n (w (cell_of root n))

pub one_more : (w : Words) (root n : ℕ) → entries_below w root (n + 1) ≡ entries_below w root n ++ entry_if n (w (cell_of root n))
unfolding entries_below
one_more w root n = rw add-one refl

abbrev AreBefore : ℕ → FiniteMap → Type 0
AreBefore n [] = Unit {0}
AreBefore n (p ∷ ps) = (p.0 < n) × AreBefore n ps

-- ---- the keys ascend

before_if : (n v : ℕ) → AreBefore (suc n) (entry_if n v)
before_if n v = step (v == 0)
  where
    step : (t : Bool) → AreBefore (suc n) (if t then [] else (n, v) ∷ [])
    step true = tt
    step false = (omega arith, tt)

before_joined : (n : ℕ) (ps qs : FiniteMap) → AreBefore n ps → AreBefore n qs → AreBefore n (ps ++ qs)
before_joined n [] qs h k = k
before_joined n (p ∷ ps) qs h k = (h.0, before_joined n ps qs h.1 k)

before_more : (n : ℕ) (ps : FiniteMap) → AreBefore n ps → AreBefore (suc n) ps
before_more n [] h = tt
before_more n (p ∷ ps) h = (let less = h.0 in omega (arith, less), before_more n ps h.1)

before_below : (w : Words) (root n : ℕ) → AreBefore n (entries_below w root n)
unfolding entries_below
before_below w root zero = tt
before_below w root (suc n) = before_joined (suc n) (entries_below w root n) (entry_if n (w (cell_of root n))) (before_more n (entries_below w root n) (before_below w root n)) (before_if n (w (cell_of root n)))

after_end : (key n v : ℕ) (ps : FiniteMap) → key < n → AreAfter key ps → AreAfter key (ps ++ (n, v) ∷ [])
after_end key n v [] less h = (less, tt)
after_end key n v (p ∷ ps) less h = (h.0, after_end key n v ps less h.1)

ascends_end : (n v : ℕ) (ps : FiniteMap) → AreBefore n ps → HasAscendingKeys ps → HasAscendingKeys (ps ++ (n, v) ∷ [])
ascends_end n v [] less h = (tt, tt)
ascends_end n v (p ∷ ps) less h = (after_end p.0 n v ps less.0 h.0, ascends_end n v ps less.1 h.1)

nothing_more : (ps : FiniteMap) → ps ++ [] ≡ ps
nothing_more [] = refl
nothing_more (p ∷ ps) = ap (λ xs. p ∷ xs) (nothing_more ps)

ascends_if : (n v : ℕ) (ps : FiniteMap) → AreBefore n ps → HasAscendingKeys ps → HasAscendingKeys (ps ++ entry_if n v)
ascends_if n v ps less h = step (v == 0)
  where
    step : (t : Bool) → HasAscendingKeys (ps ++ (if t then [] else (n, v) ∷ []))
    step true = subst HasAscendingKeys (sym (nothing_more ps)) h
    step false = ascends_end n v ps less h

ascends : (w : Words) (root n : ℕ) → HasAscendingKeys (entries_below w root n)
unfolding entries_below
ascends w root zero = tt
ascends w root (suc n) = ascends_if n (w (cell_of root n)) (entries_below w root n) (before_below w root n) (ascends w root n)

-- ---- look-ups

lookup_joined : (k : ℕ) (ps qs : FiniteMap) → lookup k ps ≡ None → lookup k (ps ++ qs) ≡ lookup k qs
lookup_joined k [] qs h = refl
lookup_joined k (p ∷ ps) qs h = step (lookup_joined k ps qs) (k == p.0) h
  where
    step : (lookup k ps ≡ None → lookup k (ps ++ qs) ≡ lookup k qs) → (t : Bool) → (if t then Some p.1 else lookup k ps) ≡ None → (if t then Some p.1 else lookup k (ps ++ qs)) ≡ lookup k qs
    step again true h = absurd (cc)
    step again false h = again h

lookup_front : (k : ℕ) (ps qs : FiniteMap) → lookup k qs ≡ None → lookup k (ps ++ qs) ≡ lookup k ps
lookup_front k [] qs h = h
lookup_front k (p ∷ ps) qs h = ap (λ x. if k == p.0 then Some p.1 else x) (lookup_front k ps qs h)

lookup_if : (n v : ℕ) → lookup n (entry_if n v) ≡ value_or_none v
lookup_if n v = step (v == 0)
  where
    step : (t : Bool) → lookup n (if t then [] else (n, v) ∷ []) ≡ (if t then None else Some v)
    step true = refl
    step false = let on = equal_on n in rw on refl

lookup_other : (k n v : ℕ) → k ≢ n → lookup k (entry_if n v) ≡ None
lookup_other k n v ne = step (v == 0)
  where
    step : (t : Bool) → lookup k (if t then [] else (n, v) ∷ []) ≡ None
    step true = refl
    step false = let off = equal_off k n ne in rw off refl

below_self : (n : ℕ) → nat_lt n n ≡ false
below_self n = grind (arith, nat_tests)

below_next : (n : ℕ) → nat_lt n (suc n) ≡ true
below_next n = grind (arith, nat_tests)

below_other : (k n : ℕ) → k ≢ n → nat_lt k n ≡ nat_lt k (suc n)
below_other k n ne = grind (arith, nat_tests)

lookup_below : (w : Words) (root n k : ℕ) → lookup k (entries_below w root n) ≡ (if nat_lt k n then value_or_none (w (cell_of root k)) else None)
unfolding entries_below
lookup_below w root zero k = let off : nat_lt k 0 ≡ false = grind (arith, nat_tests) in rw off refl
lookup_below w root (suc n) k = step (lookup_below w root n) (eqb_tells k n)
  where
    step : ((j : ℕ) → lookup j (entries_below w root n) ≡ (if nat_lt j n then value_or_none (w (cell_of root j)) else None))
        → (((k == n) ≡ true) × (k ≡ n)) ⊎ (((k == n) ≡ false) × (k ≢ n))
        → lookup k (entries_below w root n ++ entry_if n (w (cell_of root n))) ≡ (if nat_lt k (suc n) then value_or_none (w (cell_of root k)) else None)
    step again (inl e) = subst (λ j. lookup j (entries_below w root n ++ entry_if n (w (cell_of root n))) ≡ (if nat_lt j (suc n) then value_or_none (w (cell_of root j)) else None)) (sym e.1)
        (lookup_joined n (entries_below w root n) (entry_if n (w (cell_of root n))) (again n ∙ ap (λ t. if t then value_or_none (w (cell_of root n)) else None) (below_self n))
        ∙ lookup_if n (w (cell_of root n)) ∙ sym (ap (λ t. if t then value_or_none (w (cell_of root n)) else None) (below_next n)))
    step again (inr ne) = lookup_front k (entries_below w root n) (entry_if n (w (cell_of root n))) (lookup_other k n (w (cell_of root n)) ne.1)
        ∙ again k ∙ ap (λ t. if t then value_or_none (w (cell_of root k)) else None) (below_other k n ne.1)

-- the entries of all keys are the map
pub are_all : (land : Land) (w : Words) (root : ℕ) (m : FiniteMap) → IsCellsMap land w root m → entries_below w root 12 ≡ m
are_all land w root m h = same_entries (entries_below w root 12) m (ascends w root 12) h.ascending (λ k. lookup_below w root 12 k ∙ sym (h.lookup_is k))

pub none_below : (w : Words) (root : ℕ) (found : List Pair) → found ≡ [] → map entry_of found ≡ entries_below w root 0
unfolding entries_below
none_below w root found e = rw e refl

-- one key more
pub goes_on : (s u : Space) (root n v : ℕ) (found later : List Pair) → u ≡ s → v ≡ u.word (cell_of root n) → map entry_of found ≡ entries_below s.word root n
    → map entry_of later ≡ map entry_of found ++ entry_if n v → map entry_of later ≡ entries_below s.word root (n + 1)
goes_on s u root n v found later same is before more =
    let value : v ≡ s.word (cell_of root n) = is ∙ ap (λ (y : Space). y.word (cell_of root n)) same in
    more ∙ ap (λ xs. xs ++ entry_if n v) before ∙ ap (λ x. entries_below s.word root n ++ entry_if n x) value ∙ sym (one_more s.word root n)

pub all_keys : (n : ℕ) → 12 ≤ n → n ≤ 12 → n ≡ 12
all_keys n low high = omega (arith, low, high)
