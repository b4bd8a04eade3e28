-- What is read along a chain are its records.
use Rattle.std.proofs.Common.{◌≡◌, ◌≢◌, ◌⊎◌, inl, inr, ℕ, zero, suc, ◌+◌, ◌<◌, ◌≤◌, Bool, true, false, cond, ◌==◌, List, [], ◌∷◌, ◌++◌, length, map, reverse, refl, ap, sym, ◌∙◌, arith, subst, append_assoc, append-nil, nat_lt}
use Rattle.std.specs.Prelude.{slice_index_or, IsPermutation, sum_by}
use Rattle.std.proofs.lemmas.Bool.Decides.{nat_tests, eqb_tells}
use Rattle.std.proofs.lemmas.List.Sorted.{IsPermutation-sym, Contains-permutation, sum_by-IsPermutation}
use Rattle.std.proofs.lemmas.List.{reverse-append}
use Rattle.std.proofs.lemmas.List.Sums.{sum_by-append, sum_by-cons}
use Rattle.std.specs.List.{Contains}
use Rattle.std.specs.List.Sorted.{IsSortedByKey}
use Rattle.std.specs.Ordering.{is_lt, nat_cmp, ordering_then}
use Rattle.std.specs.declared.cmp.Ordering.TheVariants.{Less, Equal, Greater}
use Rattle.std.proofs.lemmas.Bool.{ltb-false}
use Rattle.persist_model.specs.Region.{Words}
use Rattle.persist_model.specs.Records.{Record, Log, IsAmong, IsNewer, IsNewestFirst}
use Rattle.persist_model.specs.Shape.{Shape, IsBucketOf}
use Rattle.persist_model.specs.Chain.{HasNoRepeats, AreBuckets}
use Rattle.persist_model.specs.ImageRecords.{cell_address, record_at, IsRecordOf}
use Rattle.persist_model.proofs.Among.{among_left, among_right, among_append}
use Rattle.region_layout.specs.declared.cell.Cell.{Cell}
use Rattle.region_layout.specs.Cell.{cell_at}
use Rattle.bucket_log.specs.declared.scanning.Placed.{Placed}
use Rattle.bucket_log.specs.Scans.{record_of_placed, IsLogIn, placed_at, open_cell, open_cells, chain_cells, ComesBefore, IsSortedOf}
use Rattle.bucket_log.proofs.Addresses.{cells_apart}
use Rattle.bucket_log.proofs.AppendImages.{Each-among}
use Rattle.bucket_log.proofs.RecordSets.{gate_of}

pub chain_cells-push : (w : Words) (cells : ℕ) (front : List ℕ) (b : ℕ) → chain_cells w cells (front ++ b ∷ []) ≡ chain_cells w cells front ++ open_cells w b cells
chain_cells-push w cells [] b = append-nil (open_cells w b cells)
chain_cells-push w cells (x ∷ xs) b = ap (λ ys. open_cells w x cells ++ ys) (chain_cells-push w cells xs b) ∙ sym (append_assoc (open_cells w x cells) (chain_cells w cells xs) (open_cells w b cells))

-- one cell more of a bucket
pub kept_more : (w : Words) (b n : ℕ) (items found later : List Placed) (cell : Cell) → cell ≡ cell_at w (cell_address b n) → found ≡ items ++ open_cells w b n →
    later ≡ found ++ open_cell (cell_address b n) cell → later ≡ items ++ open_cells w b (n + 1)
kept_more w b n items found later cell is so_far more =
    let e : suc n ≡ n + 1 = omega arith in
    more ∙ ap (λ x. found ++ open_cell (cell_address b n) x) is ∙ ap (λ xs. xs ++ open_cell (cell_address b n) (cell_at w (cell_address b n))) so_far
    ∙ append_assoc items (open_cells w b n) (open_cell (cell_address b n) (cell_at w (cell_address b n))) ∙ ap (λ m. items ++ open_cells w b m) e

-- one bucket more of a chain
pub walked_more : (w : Words) (cells : ℕ) (front : List ℕ) (b : ℕ) (found later : List Placed) → found ≡ chain_cells w cells front → later ≡ found ++ open_cells w b cells →
    later ≡ chain_cells w cells (front ++ b ∷ [])
walked_more w cells front b found later so_far more = more ∙ ap (λ xs. xs ++ open_cells w b cells) so_far ∙ sym (chain_cells-push w cells front b)

-- ---- what is found

-- x is an open cell among the first n of the bucket b
record IsOpenIn (w : Words) (b n : ℕ) (x : Placed) : Type 0 where
  place : ℕ
  below : place < n
  is : x ≡ placed_at w (cell_address b place)
  gate : w (cell_address b place) ≢ 0

abbrev one_more : Words → ℕ → ℕ → List Placed
one_more w b n = open_cell (cell_address b n) (cell_at w (cell_address b n))

-- the cell n is found where it is open
more_cases : (w : Words) (b n : ℕ) → ((w (cell_address b n) ≡ 0) × (one_more w b n ≡ [])) ⊎ ((w (cell_address b n) ≢ 0) × (one_more w b n ≡ placed_at w (cell_address b n) ∷ []))
more_cases w b n = elim (eqb_tells (w (cell_address b n)) 0) [
  | inl e ↦ inl (e.1, ap (λ t. cond t [] (placed_at w (cell_address b n) ∷ [])) e.0)
  | inr e ↦ inr (e.1, ap (λ t. cond t [] (placed_at w (cell_address b n) ∷ [])) e.0)
]

open_found : (w : Words) (b n : ℕ) (x : Placed) → IsAmong (open_cells w b n) x → IsOpenIn w b n x
open_found w b zero x m = absurd m
open_found w b (suc n) x m = elim (among_append (open_cells w b n) (one_more w b n) x m) [
  | inl k ↦ (let h = open_found w b n x k in record { place = h.place; below = (let lt = h.below in omega (arith, lt)); is = h.is; gate = h.gate })
  | inr k ↦ elim (more_cases w b n) [
    | inl none ↦ absurd (subst (λ ys. IsAmong ys x) none.1 k)
    | inr some ↦ elim (subst (λ ys. IsAmong ys x) some.1 k) [ inl e ↦ record { place = n; below = omega arith; is = e; gate = some.0 } | inr z ↦ absurd z ]
  ]
]

open_is_found : (w : Words) (b n c : ℕ) → c < n → w (cell_address b c) ≢ 0 → IsAmong (open_cells w b n) (placed_at w (cell_address b c))
open_is_found w b zero c lt ne = absurd (omega (arith, lt))
open_is_found w b (suc n) c lt ne = elim (eqb_tells c n) [
  | inl e ↦ among_right (open_cells w b n) (one_more w b n) (placed_at w (cell_address b c)) (elim (more_cases w b n) [
    | inl none ↦ absurd (ne (ap (λ m. w (cell_address b m)) e.1 ∙ none.0))
    | inr some ↦ subst (λ ys. IsAmong ys (placed_at w (cell_address b c))) (sym some.1) (inl (ap (λ m. placed_at w (cell_address b m)) e.1))
  ])
  | inr e ↦ (let off = e.1 in among_left (open_cells w b n) (one_more w b n) (placed_at w (cell_address b c)) (open_is_found w b n c (omega (arith, lt, off)) ne))
]

chain_found : (w : Words) (cells : ℕ) (chain : List ℕ) (x : Placed) → IsAmong (chain_cells w cells chain) x → (b : ℕ) × IsAmong chain b × IsOpenIn w b cells x
chain_found w cells [] x m = absurd m
chain_found w cells (b ∷ chain) x m = elim (among_append (open_cells w b cells) (chain_cells w cells chain) x m) [
  | inl k ↦ (b, inl refl, open_found w b cells x k)
  | inr k ↦ (let h = chain_found w cells chain x k in (h.0, inr h.1, h.2))
]

chain_is_found : (w : Words) (cells : ℕ) (chain : List ℕ) (b c : ℕ) → IsAmong chain b → c < cells → w (cell_address b c) ≢ 0 → IsAmong (chain_cells w cells chain) (placed_at w (cell_address b c))
chain_is_found w cells [] b c m lt ne = absurd m
chain_is_found w cells (x ∷ chain) b c (inl e) lt ne = among_left (open_cells w x cells) (chain_cells w cells chain) (placed_at w (cell_address b c))
    (subst (λ n. IsAmong (open_cells w n cells) (placed_at w (cell_address b c))) e (open_is_found w b cells c lt ne))
chain_is_found w cells (x ∷ chain) b c (inr m) lt ne = among_right (open_cells w x cells) (chain_cells w cells chain) (placed_at w (cell_address b c)) (chain_is_found w cells chain b c m lt ne)

-- ---- each is found once

abbrev pub counts : ℕ → Placed → ℕ
counts a x = cond (x.at == a) 1 0

abbrev pub count_at : ℕ → List Placed → ℕ
count_at a xs = sum_by (counts a) xs

pub count-append : (a : ℕ) (xs ys : List Placed) → count_at a (xs ++ ys) ≡ count_at a xs + count_at a ys
count-append a xs ys = sum_by-append (counts a) xs ys

pub count-cons : (a : ℕ) (x : Placed) (xs : List Placed) → count_at a (x ∷ xs) ≡ counts a x + count_at a xs
count-cons a x xs = sum_by-cons (counts a) x xs

pub count_none : (a : ℕ) (xs : List Placed) → ((x : Placed) → IsAmong xs x → x.at ≢ a) → count_at a xs ≡ 0
count_none a [] off = refl
count_none a (x ∷ xs) off =
    let rest = count_none a xs (λ y m. off y (inr m)) in
    let here : counts a x ≡ 0 = none (off x (inl refl)) in
    let all = count-cons a x xs in
    omega (arith, rest, here, all)
  where
    none : x.at ≢ a → counts a x ≡ 0
    none ne = let f : (x.at == a) ≡ false = grind (arith, nat_tests, ne) in ap (λ t. cond t 1 0) f

pub counts_small : (a : ℕ) (x : Placed) → counts a x ≤ 1
counts_small a x = by (x.at == a)
  where
    by : (t : Bool) → cond t 1 0 ≤ 1
    by true = omega arith
    by false = omega arith

open_once : (w : Words) (b n a : ℕ) → count_at a (open_cells w b n) ≤ 1
open_once w b zero a = omega arith
open_once w b (suc n) a =
    let all = count-append a (open_cells w b n) (one_more w b n) in
    elim (more_cases w b n) [
      | inl none ↦ (let e : count_at a (one_more w b n) ≡ 0 = ap (count_at a) none.1 in let rest = open_once w b n a in omega (arith, all, e, rest))
      | inr some ↦ (let e : count_at a (one_more w b n) ≡ counts a (placed_at w (cell_address b n)) + count_at a [] = ap (count_at a) some.1 ∙ count-cons a (placed_at w (cell_address b n)) [] in elim (eqb_tells (cell_address b n) a) [
        | inl at ↦ (let rest : count_at a (open_cells w b n) ≡ 0 = count_none a (open_cells w b n) (λ x m z. (let h = open_found w b n x m in
            let lt = h.below in let place : x.at ≡ cell_address b h.place = ap (λ (y : Placed). y.at) h.is in let same = at.1 in omega (arith, lt, place, same, z))) in
            let small = counts_small a (placed_at w (cell_address b n)) in omega (arith, all, e, rest, small))
        | inr off ↦ (let none : counts a (placed_at w (cell_address b n)) ≡ 0 = ap (λ t. cond t 1 0) off.0 in let rest = open_once w b n a in omega (arith, all, e, none, rest))
      ])
    ]

abbrev IsCellAt : ℕ → ℕ → ℕ → Type 0
IsCellAt cells a b = (c : ℕ) × (c < cells) × (cell_address b c ≡ a)

-- a bucket that isn't in the chain shares no cell with it
chain_once : (shape : Shape) (part : ℕ) (w : Words) (chain : List ℕ) (a : ℕ) → AreBuckets (IsBucketOf shape part) chain → HasNoRepeats chain → count_at a (chain_cells w shape.cells chain) ≤ 1
chain_once shape part w [] a buckets once = omega arith
chain_once shape part w (b ∷ chain) a buckets once =
    let all = count-append a (open_cells w b shape.cells) (chain_cells w shape.cells chain) in
    let first = open_once w b shape.cells a in
    let rest = chain_once shape part w chain a buckets.1 once.1 in
    elim (eqb_tells (count_at a (chain_cells w shape.cells chain)) 0) [
      | inl e ↦ (let none = e.1 in omega (arith, all, first, none))
      | inr e ↦ (let none : count_at a (open_cells w b shape.cells) ≡ 0 = count_none a (open_cells w b shape.cells) (λ x m z. e.1 (count_none a (chain_cells w shape.cells chain) (λ y k q. apart x y m k z q))) in
          omega (arith, all, rest, none))
    ]
  where
    apart : (x y : Placed) → IsAmong (open_cells w b shape.cells) x → IsAmong (chain_cells w shape.cells chain) y → x.at ≡ a → y.at ≡ a → ⊥
    apart x y m k z q =
        let h = open_found w b shape.cells x m in
        let g = chain_found w shape.cells chain y k in
        let at_x : x.at ≡ cell_address b h.place = ap (λ (u : Placed). u.at) h.is in
        let at_y : y.at ≡ cell_address g.0 g.2.place = ap (λ (u : Placed). u.at) g.2.is in
        let same : cell_address b h.place ≡ cell_address g.0 g.2.place = sym at_x ∙ z ∙ sym q ∙ at_y in
        let both = cells_apart shape part part b h.place g.0 g.2.place (cell_address b h.place) buckets.0 (Each-among (IsBucketOf shape part) chain g.0 buckets.1 g.1) h.below g.2.below
        (omega arith) (omega arith) (omega (arith, same)) (omega (arith, same)) in
        Each-among (λ u. b ≢ u) chain g.0 once.0 g.1 both.0

-- ---- the order

comes_trans : (x y z : Placed) → ComesBefore x y → ComesBefore y z → ComesBefore x z
comes_trans x y z (inl a) (inl b) = inl (omega (arith, a, b))
comes_trans x y z (inl a) (inr b) = let e = b.0 in inl (omega (arith, a, e))
comes_trans x y z (inr a) (inl b) = let e = a.0 in inl (omega (arith, e, b))
comes_trans x y z (inr a) (inr b) = let e = a.1 in let f = b.1 in inr (a.0 ∙ b.0, omega (arith, e, f))

-- each comes before all that are behind it
abbrev pub ArePlacedAscending : List Placed → Type 0
ArePlacedAscending [] = Unit {0}
ArePlacedAscending (x ∷ xs) = ((y : Placed) → IsAmong xs y → ComesBefore x y) × ArePlacedAscending xs

ascends : (xs : List Placed) → ((k : ℕ) (d : Placed) → suc k < length xs → ComesBefore (slice_index_or xs k d) (slice_index_or xs (suc k) d)) → ArePlacedAscending xs
ascends [] h = tt
ascends (x ∷ []) h = ((λ y m. absurd m), tt)
ascends (x ∷ z ∷ zs) h =
    let rest : ArePlacedAscending (z ∷ zs) = ascends (z ∷ zs) (λ k d lt. h (suc k) d (omega (arith, lt))) in
    let first : ComesBefore x z = h 0 x (omega arith) in
    ((λ y m. elim m [ inl e ↦ subst (ComesBefore x) (sym e) first | inr k ↦ comes_trans x z y first (rest.0 y k) ]), rest)

pub ascending : (found sorted : List Placed) → IsSortedOf found sorted → ArePlacedAscending sorted
ascending found sorted h = ascends sorted (λ k d lt. (let e : k + 1 ≡ suc k = omega arith in
    subst (λ n. ComesBefore (slice_index_or sorted k d) (slice_index_or sorted n d)) e (h.ascending k d (omega (arith, lt)))))

-- from the sort's own clause
pair_by : (x y u v : Bool) → is_lt (ordering_then (cond x Less (cond y Equal Greater)) (cond u Less (cond v Equal Greater))) ≡ false → (x ≡ false) × ((y ≡ false) ⊎ (u ≡ false))
pair_by true y u v h = cc
pair_by false false u v h = (refl, inl refl)
pair_by false true true v h = cc
pair_by false true false v h = (refl, inr refl)

pair_order : (a b c d : ℕ) → is_lt (ordering_then (nat_cmp a c) (nat_cmp b d)) ≡ false → (c < a) ⊎ ((c ≡ a) × (d ≤ b))
pair_order a b c d h =
    let k = pair_by (nat_lt a c) (a == c) (nat_lt b d) (b == d) h in
    let le : c ≤ a = ltb-false a c k.0 in
    elim (eqb_tells a c) [
      | inl e ↦ (let same = e.1 in elim k.1 [ inl off ↦ absurd (clash e.0 off) | inr second ↦ inr (sym same, ltb-false b d second) ])
      | inr e ↦ (let ne = e.1 in inl (omega (arith, le, ne)))
    ]
  where
    clash : (a == c) ≡ true → (a == c) ≡ false → ⊥
    clash on off = cc

abbrev pub key_of : Placed → ℕ × ℕ
key_of placed = (placed.cell.lsn, placed.at)

pub sorted_pairs : (xs : List Placed) → IsSortedByKey key_of (λ x y. ordering_then (nat_cmp x.0 y.0) (nat_cmp x.1 y.1)) xs →
    (k : ℕ) (d : Placed) → k + 1 < length xs → ComesBefore (slice_index_or xs k d) (slice_index_or xs (k + 1) d)
sorted_pairs xs h k d lt = pair_order (slice_index_or xs (k + 1) d).cell.lsn (slice_index_or xs (k + 1) d).at (slice_index_or xs k d).cell.lsn (slice_index_or xs k d).at (h k d (omega arith) lt)

-- ---- membership

pub reverse-cons : (r : Record) (log : Log) → reverse (r ∷ log) ≡ reverse log ++ r ∷ []
reverse-cons r log = reverse-append (r ∷ []) log

among_contains : (xs : List Placed) (x : Placed) → IsAmong xs x → Contains xs x
among_contains [] x m = absurd m
among_contains (y ∷ ys) x (inl e) = (0, omega arith, sym e)
among_contains (y ∷ ys) x (inr m) = let k = among_contains ys x m in let lt = k.1 in (suc k.0, omega (arith, lt), k.2)

contains_among : (xs : List Placed) (x : Placed) (k : ℕ) → k < length xs → slice_index_or xs k x ≡ x → IsAmong xs x
contains_among [] x k lt e = absurd (omega (arith, lt))
contains_among (y ∷ ys) x zero lt e = inl (sym e)
contains_among (y ∷ ys) x (suc k) lt e = inr (contains_among ys x k (omega (arith, lt)) e)

pub permuted : (xs ys : List Placed) (x : Placed) → IsPermutation xs ys → IsAmong xs x → IsAmong ys x
permuted xs ys x h m = let k = Contains-permutation xs ys x h (among_contains xs x m) in contains_among ys x k.0 k.1 k.2

pub among_map : (xs : List Placed) (r : Record) → IsAmong (map record_of_placed xs) r → (x : Placed) × IsAmong xs x × (r ≡ record_of_placed x)
among_map [] r m = absurd m
among_map (y ∷ ys) r (inl e) = (y, inl refl, e)
among_map (y ∷ ys) r (inr m) = let k = among_map ys r m in (k.0, inr k.1, k.2)

pub map_among : (xs : List Placed) (x : Placed) → IsAmong xs x → IsAmong (map record_of_placed xs) (record_of_placed x)
map_among [] x m = absurd m
map_among (y ∷ ys) x (inl e) = inl (ap record_of_placed e)
map_among (y ∷ ys) x (inr m) = inr (map_among ys x m)

pub reverse_among : (log : Log) (r : Record) → IsAmong log r → IsAmong (reverse log) r
reverse_among [] r m = absurd m
reverse_among (x ∷ log) r (inl e) = subst (λ zs. IsAmong zs r) (sym (reverse-cons x log)) (among_right (reverse log) (x ∷ []) r (inl e))
reverse_among (x ∷ log) r (inr m) = subst (λ zs. IsAmong zs r) (sym (reverse-cons x log)) (among_left (reverse log) (x ∷ []) r (reverse_among log r m))

pub among_reverse : (log : Log) (r : Record) → IsAmong (reverse log) r → IsAmong log r
among_reverse [] r m = m
among_reverse (x ∷ log) r m = elim (among_append (reverse log) (x ∷ []) r (subst (λ zs. IsAmong zs r) (reverse-cons x log) m)) [
  | inl k ↦ inr (among_reverse log r k)
  | inr k ↦ elim k [ inl e ↦ inl e | inr z ↦ absurd z ]
]

-- ---- newest first

newest-push : (log : Log) (r : Record) → IsNewestFirst log → ((s : Record) → IsAmong log s → IsNewer s r) → IsNewestFirst (log ++ r ∷ [])
newest-push [] r h newer = ((λ s m. absurd m), tt)
newest-push (x ∷ log) r h newer = (
  (λ s m. elim (among_append log (r ∷ []) s m) [
    | inl k ↦ h.0 s k
    | inr k ↦ elim k [ inl e ↦ subst (IsNewer x) (sym e) (newer x (inl refl)) | inr z ↦ absurd z ]
  ]),
  newest-push log r h.1 (λ s m. newer s (inr m)),
)

count_has : (xs : List Placed) (y : Placed) → IsAmong xs y → 1 ≤ count_at y.at xs
count_has [] y m = absurd m
count_has (x ∷ xs) y (inl e) =
    let all = count-cons y.at x xs in
    let one : counts y.at x ≡ 1 = here y.at x (ap (λ (p : Placed). p.at) (sym e)) in
    omega (arith, all, one)
  where
    here : (a : ℕ) (x : Placed) → x.at ≡ a → counts a x ≡ 1
    here a x e = let t : (x.at == a) ≡ true = grind (arith, nat_tests, e) in ap (λ b. cond b 1 0) t
count_has (x ∷ xs) y (inr m) = let all = count-cons y.at x xs in let rest = count_has xs y m in omega (arith, all, rest)

newer_of : (x y : Placed) → ComesBefore x y → x.at ≢ y.at → IsNewer (record_of_placed y) (record_of_placed x)
newer_of x y (inl lt) ne = inl lt
newer_of x y (inr h) ne = let le = h.1 in inr (h.0, omega (arith, le, ne))

pub newest : (xs : List Placed) → ArePlacedAscending xs → ((a : ℕ) → count_at a xs ≤ 1) → IsNewestFirst (reverse (map record_of_placed xs))
newest [] h once = tt
newest (x ∷ xs) h once = subst IsNewestFirst (sym (reverse-cons (record_of_placed x) (map record_of_placed xs)))
    (newest-push (reverse (map record_of_placed xs)) (record_of_placed x)
    (newest xs h.1 (λ a. (let all = count-cons a x xs in let most = once a in omega (arith, all, most))))
    (λ s m. (let k = among_map xs s (among_reverse (map record_of_placed xs) s m) in
    subst (λ r. IsNewer r (record_of_placed x)) (sym k.2) (newer_of x k.0 (h.0 k.0 k.1) (apart k.0 k.1)))))
  where
    apart : (y : Placed) → IsAmong xs y → x.at ≢ y.at
    apart y m e =
        let all = count-cons y.at x xs in
        let most = once y.at in
        let rest = count_has xs y m in
        let one : counts y.at x ≡ 1 = here e in
        omega (arith, all, most, rest, one)
      where
        here : x.at ≡ y.at → counts y.at x ≡ 1
        here e = let t : (x.at == y.at) ≡ true = grind (arith, nat_tests, e) in ap (λ b. cond b 1 0) t

-- ---- the cells of the chain, sorted, are its log

pub sorted_is_log : (shape : Shape) (part : ℕ) (w : Words) (chain : List ℕ) (found sorted : List Placed) → AreBuckets (IsBucketOf shape part) chain → HasNoRepeats chain →
    found ≡ chain_cells w shape.cells chain → IsSortedOf found sorted → IsLogIn shape.cells w chain (reverse (map record_of_placed sorted))
sorted_is_log shape part w chain found sorted buckets once is h = record {
  newest_first = newest sorted (ascending found sorted h) (λ a. (let most = chain_once shape part w chain a buckets once in
      let same = sum_by-IsPermutation (counts a) found sorted h.same in let e : count_at a found ≡ count_at a (chain_cells w shape.cells chain) = ap (count_at a) is in omega (arith, most, same, e)));
  each = λ r. (
    (λ m. (let k = among_map sorted r (among_reverse (map record_of_placed sorted) r m) in
        let was = subst (λ xs. IsAmong xs k.0) is (permuted sorted found k.0 (IsPermutation-sym found sorted h.same) k.1) in
        of_found r k.0 k.2 (chain_found w shape.cells chain k.0 was))),
    (λ k. (let at = cell_address k.bucket k.place in
        let open_at : w at ≢ 0 = λ z. k.gate (ap gate_of k.is ∙ z) in
        let m = subst (λ xs. IsAmong xs (placed_at w at)) (sym is) (chain_is_found w shape.cells chain k.bucket k.place k.is_among k.below open_at) in
        subst (IsAmong (reverse (map record_of_placed sorted))) (sym k.is)
        (reverse_among (map record_of_placed sorted) (record_at w at) (map_among sorted (placed_at w at) (permuted found sorted (placed_at w at) h.same m))))),
  );
}
  where
    of_found : (r : Record) (x : Placed) → r ≡ record_of_placed x → (b : ℕ) × IsAmong chain b × IsOpenIn w b shape.cells x → IsRecordOf shape.cells chain w r
    of_found r x e h =
        let is : r ≡ record_at w (cell_address h.0 h.2.place) = e ∙ ap record_of_placed h.2.is in record {
          bucket = h.0;
          is_among = h.1;
          place = h.2.place;
          below = h.2.below;
          is = is;
          gate = λ z. h.2.gate (sym (ap gate_of is) ∙ z);
        }

-- words that agree on the cells of the chain have the same log
pub log_same : (cells : ℕ) (w v : Words) (chain : List ℕ) (log : Log) → ((b c : ℕ) → IsAmong chain b → c < cells → record_at v (cell_address b c) ≡ record_at w (cell_address b c)) →
    IsLogIn cells w chain log → IsLogIn cells v chain log
log_same cells w v chain log same h = record {
  newest_first = h.newest_first;
  each = λ r. (
    (λ m. (let k = (h.each r).0 m in record { bucket = k.bucket; is_among = k.is_among; place = k.place; below = k.below; is = k.is ∙ sym (same k.bucket k.place k.is_among k.below); gate = k.gate })),
    (λ k. (h.each r).1 (record { bucket = k.bucket; is_among = k.is_among; place = k.place; below = k.below; is = k.is ∙ same k.bucket k.place k.is_among k.below; gate = k.gate })),
  );
}
