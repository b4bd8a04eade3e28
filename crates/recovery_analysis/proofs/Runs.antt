-- Records that are put together by transaction and cut where it changes.
use Rattle.std.proofs.Common.{◌≡◌, ◌≢◌, inl, inr, ℕ, zero, suc, ◌<◌, ◌≤◌, Bool, true, false, cond, not, ◌==◌, ◌&&◌, List, [], ◌∷◌, ◌++◌, length, map, reverse, take, drop, get_or, nat_lt, refl, sym, ap, ◌∙◌, subst, arith, append_assoc, append-nil}
use Rattle.std.specs.Prelude.{IsPermutation}
use Rattle.std.specs.List.{filter}
use Rattle.std.specs.List.Sorted.{IsNonDecreasingBy, ties, IsStableByKey}
use Rattle.std.specs.Ordering.{is_lt, nat_cmp}
use Rattle.std.specs.declared.cmp.Ordering.TheVariants.{Less, Equal, Greater}
use Rattle.log_laws.proofs.Deciding.{decide_less}
use Rattle.std.proofs.lemmas.List.{map-append, take-append-drop}
use Rattle.std.proofs.lemmas.List.Elements.{filter-append}
use Rattle.std.proofs.lemmas.List.Sorted.{IsPermutation-sym}
use Rattle.std.proofs.lemmas.Bool.Decides.{nat_tests, eqb_tells}
use Rattle.persist_model.specs.Records.{Record, Log, IsAmong, Has, IsOf}
use Rattle.persist_model.specs.Need.{is_of}
use Rattle.bucket_log.specs.declared.scanning.Placed.{Placed}
use Rattle.bucket_log.specs.Scans.{record_of_placed}
use Rattle.persist_model.proofs.Among.{among_left, among_right, among_append}
use Rattle.bucket_log.proofs.Scans.{permuted}
use Rattle.recovery_run.specs.Groups.{records_of}
use Rattle.recovery_analysis.specs.declared.grouping.Transaction.{Transaction}
use Rattle.recovery_analysis.specs.Grouping.{IsAscending, number_of, AreTransactionsOf, Rises, all_records, IsRun, AreRuns}
use Rattle.recovery_analysis.proofs.Lists.{place_of, among_at, place_in_take, drop_among, map_among, among_map, reverse_among, among_reverse, filter_same, filter_whole, filter_none, filter_twice, filter_map_is, filter_reverse, filter_among, among_filter, ascending_push}

abbrev pub transaction_of : Placed → ℕ
transaction_of x = x.cell.transaction

-- ---- sorted

pub rises_from : (xs : List Placed) → IsNonDecreasingBy transaction_of xs → Rises xs
rises_from [] h = tt
rises_from (x ∷ xs) h = (
  (λ y m. (let k = place_of xs y m in let lt = k.1 in
      subst (λ (z : Placed). x.cell.transaction ≤ z.cell.transaction) k.2 (h 0 (suc k.0) y (omega arith) (omega (arith, lt))))),
  rises_from xs (λ i j d le lt. h (suc i) (suc j) d (omega (arith, le)) (omega (arith, lt))),
)

tie_test : (a b : ℕ) → not (is_lt (nat_cmp a b)) && not (is_lt (nat_cmp b a)) ≡ (b == a)
tie_test a b = by_bools (nat_lt a b) (a == b) (nat_lt b a) (b == a) ∙ elim (eqb_tells b a) [
  | inl e ↦ (let same = e.1 in let x : nat_lt a b ≡ false = grind (arith, nat_tests, same) in let u : nat_lt b a ≡ false = grind (arith, nat_tests, same) in rw (x, u, e.0) refl)
  | inr e ↦ elim (decide_less a b) [
    | inl lt ↦ (let x : nat_lt a b ≡ true = grind (arith, nat_tests, lt) in rw (x, e.0) refl)
    | inr ge ↦ (let ne = e.1 in let u : nat_lt b a ≡ true = grind (arith, nat_tests, ge, ne) in rw (u, e.0) (and_false (not (nat_lt a b))))
  ]
]
  where
    by_bools : (x y u v : Bool) → not (is_lt (cond x Less (cond y Equal Greater))) && not (is_lt (cond u Less (cond v Equal Greater))) ≡ not x && not u
    by_bools true y true v = refl
    by_bools true y false v = refl
    by_bools false true true v = refl
    by_bools false true false true = refl
    by_bools false true false false = refl
    by_bools false false true v = refl
    by_bools false false false true = refl
    by_bools false false false false = refl

    and_false : (x : Bool) → x && false ≡ false
    and_false true = refl
    and_false false = refl

placed_of : ℕ → Placed
placed_of t = record {
  at = 0;
  cell = record { lsn = 0; transaction = t; kind = 0; word = 0; before = 0; after = 0; undo_next = 0; outcome = 0 };
}

-- a stable sort by transaction keeps the records of each
pub stable_keeps : (xs ys : List Placed) → IsStableByKey transaction_of nat_cmp xs ys → (t : ℕ) →
    filter (λ (x : Placed). x.cell.transaction == t) ys ≡ filter (λ (x : Placed). x.cell.transaction == t) xs
unfolding placed_of
stable_keeps xs ys h t =
    filter_same (λ (x : Placed). x.cell.transaction == t) (ties (λ x y. is_lt (nat_cmp (transaction_of x) (transaction_of y))) (placed_of t)) ys (λ x. sym (tie_test t x.cell.transaction))
    ∙ h (placed_of t)
    ∙ filter_same (ties (λ x y. is_lt (nat_cmp (transaction_of x) (transaction_of y))) (placed_of t)) (λ (x : Placed). x.cell.transaction == t) xs (λ x. tie_test t x.cell.transaction)

-- ---- cut

-- made are the first records of the list, and rest is what is left
pub record IsCut (made : List Transaction) (rest sorted : List Placed) : Type 0 where
  pub rises : Rises rest
  pub ascending : IsAscending (map number_of made)
  pub runs : (t : Transaction) → IsAmong made t → IsRun t
  pub whole : all_records made ++ rest ≡ sorted
  pub below : (n : ℕ) → IsAmong (map number_of made) n → (x : Placed) → IsAmong rest x → n < x.cell.transaction

pub cut_begins : (sorted : List Placed) → Rises sorted → IsCut [] sorted sorted
cut_begins sorted h = record { rises = h; ascending = tt; runs = λ t m. absurd m; whole = refl; below = λ n m. absurd m }

pub cut_ends : (made : List Transaction) (rest sorted : List Placed) → rest ≡ [] → IsCut made rest sorted → AreRuns made sorted
cut_ends made rest sorted none h = record {
  ascending = h.ascending;
  runs = h.runs;
  whole = sym (append-nil (all_records made)) ∙ ap (λ xs. all_records made ++ xs) (sym none) ∙ h.whole;
}

rises_drop : (n : ℕ) (xs : List Placed) → Rises xs → Rises (drop n xs)
rises_drop zero xs h = h
rises_drop (suc n) [] h = h
rises_drop (suc n) (x ∷ xs) h = rises_drop n xs h.1

-- behind the run all transactions are greater
above_run : (n number : ℕ) (xs : List Placed) → Rises xs → ((x : Placed) → IsAmong xs x → number ≤ x.cell.transaction) →
    ((d : Placed) → n < length xs → (get_or xs n d).cell.transaction ≡ number → ⊥) → (y : Placed) → IsAmong (drop n xs) y → number < y.cell.transaction
above_run zero number [] rises least ends y m = absurd m
above_run zero number (x ∷ xs) rises least ends y m =
    let ne : x.cell.transaction ≢ number = ends x (omega arith) in
    let le = least x (inl refl) in
    elim m [
      | inl e ↦ (let same : y.cell.transaction ≡ x.cell.transaction = ap transaction_of e in omega (arith, ne, le, same))
      | inr k ↦ (let up = rises.0 y k in omega (arith, ne, le, up))
    ]
above_run (suc n) number [] rises least ends y m = absurd m
above_run (suc n) number (x ∷ xs) rises least ends y m =
    above_run n number xs rises.1 (λ z k. least z (inr k)) (λ d lt. ends d (omega (arith, lt))) y m

first_least : (number : ℕ) (xs : List Placed) → Rises xs → ((d : Placed) → (get_or xs 0 d).cell.transaction ≡ number) → (x : Placed) → IsAmong xs x → number ≤ x.cell.transaction
first_least number [] rises first x m = absurd m
first_least number (z ∷ zs) rises first x m = let e : z.cell.transaction ≡ number = first z in elim m [
  | inl same ↦ (let k : x.cell.transaction ≡ z.cell.transaction = ap transaction_of same in omega (arith, e, k))
  | inr k ↦ (let up = rises.0 x k in omega (arith, e, up))
]

all_records-push : (made : List Transaction) (t : Transaction) → all_records (made ++ t ∷ []) ≡ all_records made ++ t.records
all_records-push [] t = append-nil t.records
all_records-push (u ∷ made) t = ap (λ xs. u.records ++ xs) (all_records-push made t) ∙ sym (append_assoc u.records (all_records made) t.records)

first_taken : (n : ℕ) (xs : List Placed) → 1 ≤ n → 0 < length xs → (x : Placed) × IsAmong (take n xs) x
first_taken zero xs some long = absurd (omega (arith, some))
first_taken (suc n) [] some long = absurd (omega (arith, long))
first_taken (suc n) (x ∷ xs) some long = (x, inl refl)

pub cut_more : (made : List Transaction) (rest sorted : List Placed) (n : ℕ) (t : Transaction) → IsCut made rest sorted → 0 < length rest →
    ((d : Placed) → (get_or rest 0 d).cell.transaction ≡ t.number) → ((k : ℕ) (d : Placed) → k < n → (get_or rest k d).cell.transaction ≡ t.number) →
    ((d : Placed) → n < length rest → (get_or rest n d).cell.transaction ≡ t.number → ⊥) → t.records ≡ take n rest → IsCut (made ++ t ∷ []) (drop n rest) sorted
cut_more made rest sorted n t h long first own ends is = record {
  rises = rises_drop n rest h.rises;
  ascending = subst IsAscending (sym names) (ascending_push (map number_of made) t.number h.ascending
      (λ m k. (let lt = h.below m k (get_or rest 0 some.0) (among_at rest 0 some.0 long) in let e = first some.0 in omega (arith, lt, e))));
  runs = λ u m. elim (among_append made (t ∷ []) u m) [
    | inl k ↦ h.runs u k
    | inr k ↦ elim k [ inl e ↦ subst IsRun (sym e) run | inr z ↦ absurd z ]
  ];
  whole = ap (λ xs. xs ++ drop n rest) (all_records-push made t) ∙ append_assoc (all_records made) t.records (drop n rest)
      ∙ ap (λ xs. all_records made ++ (xs ++ drop n rest)) is ∙ ap (λ xs. all_records made ++ xs) (take-append-drop n rest) ∙ h.whole;
  below = λ m k x j. elim (among_append (map number_of made) (t.number ∷ []) m (subst (λ ns. IsAmong ns m) names k)) [
    | inl old ↦ h.below m old x (drop_among n rest x j)
    | inr new ↦ elim new [ inl e ↦ (let lt = above_run n t.number rest h.rises (first_least t.number rest h.rises first) ends x j in omega (arith, lt, e)) | inr z ↦ absurd z ]
  ];
}
  where
    names : map number_of (made ++ t ∷ []) ≡ map number_of made ++ t.number ∷ []
    names = map-append number_of made (t ∷ [])

    witness : (xs : List Placed) → 0 < length xs → Placed
    witness [] lt = absurd (omega (arith, lt))
    witness (x ∷ xs) lt = x

    nothing : n ≡ 0 → ⊥
    nothing e = ends (witness rest long) (omega (arith, e, long)) (ap (λ i. transaction_of (get_or rest i (witness rest long))) e ∙ first (witness rest long))

    begun : 1 ≤ n
    begun = elim (eqb_tells n 0) [
      | inl e ↦ absurd (nothing e.1)
      | inr ne ↦ (let k = ne.1 in omega (arith, k))
    ]

    some : (x : Placed) × IsAmong (take n rest) x
    some = first_taken n rest begun long

    run : IsRun t
    run = record {
      some = (some.0, subst (λ xs. IsAmong xs some.0) (sym is) some.1);
      own = λ x m. (let k = place_in_take n rest x (subst (λ xs. IsAmong xs x) is m) in sym (ap transaction_of k.3) ∙ own k.0 x k.1);
    }

-- ---- what is cut are the records of each transaction

run_before : (all : List Transaction) (n : ℕ) → ((t : Transaction) → IsAmong all t → IsRun t) → ((m : ℕ) → IsAmong (map number_of all) m → n < m) →
    (x : Placed) → IsAmong (all_records all) x → n < x.cell.transaction
run_before [] n runs above x m = absurd m
run_before (t ∷ all) n runs above x m = elim (among_append t.records (all_records all) x m) [
  | inl k ↦ (let own = (runs t (inl refl)).own x k in let lt = above t.number (inl refl) in omega (arith, own, lt))
  | inr k ↦ run_before all n (λ u j. runs u (inr j)) (λ j i. above j (inr i)) x k
]

abbrev is_numbered : ℕ → Placed → Bool
is_numbered n x = x.cell.transaction == n

numbered_not : (n : ℕ) (x : Placed) → x.cell.transaction ≢ n → is_numbered n x ≡ false
numbered_not n x ne = grind (arith, nat_tests, ne)

numbered_yes : (n : ℕ) (x : Placed) → x.cell.transaction ≡ n → is_numbered n x ≡ true
numbered_yes n x e = grind (arith, nat_tests, e)

run_records : (all : List Transaction) → IsAscending (map number_of all) → ((t : Transaction) → IsAmong all t → IsRun t) → (t : Transaction) → IsAmong all t →
    filter (is_numbered t.number) (all_records all) ≡ t.records
run_records [] up runs t m = absurd m
run_records (u ∷ all) up runs t (inl e) =
    filter-append (is_numbered t.number) u.records (all_records all)
    ∙ ap (λ xs. xs ++ filter (is_numbered t.number) (all_records all)) (filter_whole (is_numbered t.number) u.records (λ x k. numbered_yes t.number x ((runs u (inl refl)).own x k ∙ sym (ap number_of e))))
    ∙ ap (λ xs. u.records ++ xs) (filter_none (is_numbered t.number) (all_records all) (λ x k. numbered_not t.number x (λ z.
    (let lt = run_before all u.number (λ v j. runs v (inr j)) up.0 x k in let same : t.number ≡ u.number = ap number_of e in omega (arith, lt, z, same)))))
    ∙ append-nil u.records ∙ sym (ap (λ (v : Transaction). v.records) e)
run_records (u ∷ all) up runs t (inr m) =
    filter-append (is_numbered t.number) u.records (all_records all)
    ∙ ap (λ xs. xs ++ filter (is_numbered t.number) (all_records all)) (filter_none (is_numbered t.number) u.records (λ x k. numbered_not t.number x (λ z.
    (let own = (runs u (inl refl)).own x k in let lt = up.0 t.number (map_among number_of all t m) in omega (arith, own, lt, z)))))
    ∙ run_records all up.1 (λ v j. runs v (inr j)) t m

run_has : (all : List Transaction) → ((t : Transaction) → IsAmong all t → IsRun t) → (x : Placed) → IsAmong (all_records all) x → IsAmong (map number_of all) x.cell.transaction
run_has [] runs x m = absurd m
run_has (t ∷ all) runs x m = elim (among_append t.records (all_records all) x m) [
  | inl k ↦ inl ((runs t (inl refl)).own x k)
  | inr k ↦ inr (run_has all (λ u j. runs u (inr j)) x k)
]

run_within : (all : List Transaction) (t : Transaction) (x : Placed) → IsAmong all t → IsAmong t.records x → IsAmong (all_records all) x
run_within [] t x m k = absurd m
run_within (u ∷ all) t x (inl e) k = among_left u.records (all_records all) x (subst (λ (v : Transaction). IsAmong v.records x) e k)
run_within (u ∷ all) t x (inr m) k = among_right u.records (all_records all) x (run_within all t x m k)

pub records_filtered : (t : ℕ) (log : Log) → records_of t log ≡ filter (is_of t) log
records_filtered t [] = refl
records_filtered t (r ∷ log) = ap (λ xs. cond (is_of t r) (r ∷ xs) xs) (records_filtered t log)

abbrev is_kept : Placed → Bool
is_kept x = not (x.cell.kind == 5)

kept_kind : (x : Placed) → is_kept x ≡ true → x.cell.kind ≢ 5
kept_kind x on e = grind (arith, nat_tests, on, e)

kind_kept : (x : Placed) → x.cell.kind ≢ 5 → is_kept x ≡ true
kind_kept x ne = grind (arith, nat_tests, ne)

pub runs_are_transactions : (merged found sorted : List Placed) (all : List Transaction) → found ≡ filter is_kept merged → IsPermutation found sorted →
    ((t : ℕ) → filter (is_numbered t) sorted ≡ filter (is_numbered t) found) → AreRuns all sorted → AreTransactionsOf (reverse (map record_of_placed merged)) all
runs_are_transactions merged found sorted all is same kept runs = record {
  ascending = runs.ascending;
  each = λ t m. record { some = some t m; records = records t m };
  whole = λ n h. whole n h;
}
  where
    log : Log
    log = reverse (map record_of_placed merged)

    some : (t : Transaction) → IsAmong all t → Has (IsOf t.number) log
    some t m =
        let x = (runs.runs t m).some in
        let k = permuted sorted found x.0 (IsPermutation-sym found sorted same) (subst (λ xs. IsAmong xs x.0) runs.whole (run_within all t x.0 m x.1)) in
        let h = filter_among is_kept merged x.0 (subst (λ xs. IsAmong xs x.0) is k) in
        (record_of_placed x.0, reverse_among (map record_of_placed merged) (record_of_placed x.0) (map_among record_of_placed merged x.0 h.0), ((runs.runs t m).own x.0 x.1, kept_kind x.0 h.1))

    records : (t : Transaction) → IsAmong all t → reverse (map record_of_placed t.records) ≡ records_of t.number log
    records t m =
        let own : t.records ≡ filter (λ x. is_numbered t.number x && is_kept x) merged =
        sym (run_records all runs.ascending runs.runs t m) ∙ ap (filter (is_numbered t.number)) runs.whole ∙ kept t.number ∙ ap (filter (is_numbered t.number)) is
        ∙ filter_twice (is_numbered t.number) is_kept merged in
        ap (λ xs. reverse (map record_of_placed xs)) own
        ∙ ap reverse (sym (filter_map_is (is_of t.number) record_of_placed merged))
        ∙ sym (filter_reverse (is_of t.number) (map record_of_placed merged))
        ∙ sym (records_filtered t.number log)

    whole : (n : ℕ) → Has (IsOf n) log → IsAmong (map number_of all) n
    whole n h =
        let k = among_map record_of_placed merged h.0 (among_reverse (map record_of_placed merged) h.0 h.1) in
        let kind : k.0.cell.kind ≢ 5 = λ e. h.2.1 (ap (λ (r : Record). r.kind) k.2 ∙ e) in
        let in_found = subst (λ xs. IsAmong xs k.0) (sym is) (among_filter is_kept merged k.0 k.1 (kind_kept k.0 kind)) in
        let in_all = subst (λ xs. IsAmong xs k.0) (sym runs.whole) (permuted found sorted k.0 same in_found) in
        subst (IsAmong (map number_of all)) (sym (ap (λ (r : Record). r.transaction) k.2) ∙ h.2.0) (run_has all runs.runs k.0 in_all)

-- ---- the step of the loop

at_any : (xs : List Placed) (d e : Placed) → 0 < length xs → get_or xs 0 d ≡ get_or xs 0 e
at_any [] d e lt = absurd (omega (arith, lt))
at_any (x ∷ xs) d e lt = refl

pub cut_goes_on : (made later : List Transaction) (rest after sorted none records : List Placed) (n : ℕ) (t : Transaction) (e : Placed) → IsCut made rest sorted →
    0 < length rest → t.number ≡ (get_or rest 0 e).cell.transaction → ((k : ℕ) (d : Placed) → k < n → (get_or rest k d).cell.transaction ≡ t.number) →
    ((d : Placed) → n < length rest → (get_or rest n d).cell.transaction ≡ t.number → ⊥) → none ≡ [] → t.records ≡ none ++ records → records ≡ take n rest →
    after ≡ drop n rest → later ≡ made ++ t ∷ [] → IsCut later after sorted
cut_goes_on made later rest after sorted none records n t e h long first own ends empty is taken left more =
    subst (λ xs. IsCut xs after sorted) (sym more) (subst (λ xs. IsCut (made ++ t ∷ []) xs sorted) (sym left)
    (cut_more made rest sorted n t h long (λ d. ap transaction_of (at_any rest d e long) ∙ sym first) own ends (is ∙ ap (λ xs. xs ++ records) empty ∙ taken)))

pub transactions_of : (merged found sorted cut : List Placed) (all : List Transaction) → found ≡ filter is_kept merged → IsPermutation found sorted →
    ((t : ℕ) → filter (is_numbered t) sorted ≡ filter (is_numbered t) found) → cut ≡ sorted → AreRuns all cut → AreTransactionsOf (reverse (map record_of_placed merged)) all
transactions_of merged found sorted cut all is same kept e runs = runs_are_transactions merged found sorted all is same kept (subst (AreRuns all) e runs)
