-- Gates in the order of their addresses.
use Rattle.std.proofs.Common.{◌≡◌, ℕ, zero, suc, ◌+◌, ◌-◌, ◌<◌, ◌≤◌, ◌==◌, ◌||◌, List, [], ◌∷◌, length, get_or, refl, sym, ap, ◌∙◌, if◌then◌else◌, arith}
use Rattle.std.specs.Prelude.{IsPermutation, IsSorted}
use Rattle.std.specs.List.{list_any}
use Rattle.std.specs.Ordering.{nat_cmp}
use Rattle.std.proofs.lemmas.List.Sorted.{list_any-IsPermutation, IsPermutation-refl}
use Rattle.std.proofs.lemmas.Map.Keys.{ge_from_not_lt}
use Rattle.log_keeper.specs.Ledger.{Noted, is_in, is_listed, without}
use Rattle.log_keeper.specs.Slots.{IsSortedOf}

is_any : (a : ℕ) (gates : List ℕ) → is_in gates a ≡ list_any (λ b. b == a) gates
is_any a [] = refl
is_any a (b ∷ gates) = ap (λ t. (b == a) || t) (is_any a gates)

-- they are the same gates,
in_sorted : (gates sorted : List ℕ) (a : ℕ) → IsSortedOf gates sorted → is_in sorted a ≡ is_in gates a
in_sorted gates sorted a h = is_any a sorted ∙ sym (list_any-IsPermutation (λ b. b == a) gates sorted h.same) ∙ sym (is_any a gates)

listed_sorted : (gates ends checkpoints g e c : List ℕ) (a : ℕ) → IsSortedOf gates g → IsSortedOf ends e → IsSortedOf checkpoints c →
    is_listed g e c a ≡ is_listed gates ends checkpoints a
listed_sorted gates ends checkpoints g e c a x y z = λ i. in_sorted gates g a x i || (in_sorted ends e a y i || in_sorted checkpoints c a z i)

-- so the same records are closed
pub without_sorted : (gates ends checkpoints g e c : List ℕ) → IsSortedOf gates g → IsSortedOf ends e → IsSortedOf checkpoints c →
    (ledger : List Noted) → without g e c ledger ≡ without gates ends checkpoints ledger
without_sorted gates ends checkpoints g e c x y z [] = refl
without_sorted gates ends checkpoints g e c x y z (n ∷ ledger) =
    λ i. if listed_sorted gates ends checkpoints g e c n.entry.at x y z i then without_sorted gates ends checkpoints g e c x y z ledger i
    else n ∷ without_sorted gates ends checkpoints g e c x y z ledger i

-- ---- and ascend

step_up : (xs : List ℕ) → IsSorted nat_cmp xs → (k : ℕ) → k + 1 < length xs → get_or xs k 0 ≤ get_or xs (k + 1) 0
step_up xs h k lt = ge_from_not_lt (get_or xs (k + 1) 0) (get_or xs k 0) (h k 0 (omega arith) lt)

climb : (xs : List ℕ) → IsSorted nat_cmp xs → (i n : ℕ) → i + n < length xs → get_or xs i 0 ≤ get_or xs (i + n) 0
climb xs h i zero lt = let e : i + 0 ≡ i = omega arith in let s = ap (λ k. get_or xs k 0) e in omega (arith, s)
climb xs h i (suc n) lt =
    let e : i + suc n ≡ (i + n) + 1 = omega arith in
    let s = ap (λ k. get_or xs k 0) e in
    let below = climb xs h i n (omega (arith, lt)) in
    let above = step_up xs h (i + n) (omega (arith, lt)) in
    omega (arith, s, below, above)

pub sorted_gates : (xs ys : List ℕ) → IsPermutation xs ys → IsSorted nat_cmp ys → IsSortedOf xs ys
sorted_gates xs ys same h = record {
  same = same;
  ascending = λ i j le lt. (
      let e : i + (j - i) ≡ j = omega (arith, le) in
      let s = ap (λ k. get_or ys k 0) e in
      let up = climb ys h i (j - i) (omega (arith, le, lt)) in
      omega (arith, s, up));
}

pub nothing_sorted : IsSortedOf [] []
nothing_sorted = record { same = IsPermutation-refl []; ascending = λ i j le lt. omega (arith, lt) }
