-- The needs of the running transactions are those of all partitions, and no record is passed twice.
use Rattle.std.proofs.Common.{◌≡◌, ◌≢◌, ◌⊎◌, inl, inr, ℕ, zero, suc, ◌+◌, ◌-◌, ◌<◌, ◌≤◌, ◌^◌, Bool, true, false, cond, not, ◌==◌, ◌&&◌, ◌||◌, if◌then◌else◌, List, [], ◌∷◌, length, map, reverse, take, get_or, refl, sym, ap, ◌∙◌, subst, arith, zero-add}
use Rattle.std.specs.Prelude.{sum_by}
use Rattle.std.specs.List.{filter}
use Rattle.std.proofs.lemmas.List.{length-reverse, length-map}
use Rattle.std.proofs.lemmas.List.Sums.{sum_by-cons, sum_by_more, sum_by_more_le}
use Rattle.std.proofs.lemmas.Bool.Decides.{nat_tests, eqb_tells}
use Rattle.persist_model.specs.Records.{Record, Log, IsAmong, Has, IsOf, IsEnded, IsLoser}
use Rattle.persist_model.specs.Need.{need_of, is_of, has_of, need_at, sum_over, need_in}
use Rattle.persist_model.specs.State.{total_need}
use Rattle.log_laws.proofs.Needs.{of_test, has_of_true, has_kind_true}
use Rattle.log_laws.proofs.Deciding.{ended_or_running}
use Rattle.bucket_log.specs.declared.scanning.Placed.{Placed}
use Rattle.bucket_log.specs.Scans.{record_of_placed}
use Rattle.recovery_analysis.specs.declared.grouping.Transaction.{Transaction}
use Rattle.recovery_analysis.specs.Grouping.{IsAscending, number_of, IsTransactionOf}
use Rattle.recovery_analysis.specs.Analyses.{AreThose}
use Rattle.recovery_analysis.specs.Changes.{has_number}
use Rattle.recovery_analysis.specs.Needs.{AreSmall}
use Rattle.recovery_analysis.proofs.Lists.{among_at, filter_map_is, filter_reverse}
use Rattle.recovery_analysis.proofs.Runs.{records_filtered}
use Rattle.recovery_analysis.proofs.Fated.{eq_true, true_eq, both_true, take_whole}

or_true : (a b : Bool) → (a || b) ≡ true → (b ≡ true) ⊎ (a ≡ true)
or_true true b h = inr refl
or_true false b h = inl h

-- ---- each transaction at its earliest record

-- the sum of f over those of ns that have a record
abbrev seen : (ℕ → ℕ) → Log → List ℕ → ℕ
seen f log [] = 0
seen f log (n ∷ ns) = (if has_of n log then f n else 0) + seen f log ns

-- what r adds, where it is its transaction's earliest record
abbrev first : (ℕ → ℕ) → Record → Log → ℕ
first f r earlier = if not (r.kind == 5) && not (has_of r.transaction earlier) then f r.transaction else 0

abbrev pub firsts : (ℕ → ℕ) → Log → ℕ
firsts f [] = 0
firsts f (r ∷ earlier) = first f r earlier + firsts f earlier

seen_none : (f : ℕ → ℕ) (ns : List ℕ) → seen f [] ns ≡ 0
seen_none f [] = refl
seen_none f (n ∷ ns) = zero-add (seen f [] ns) ∙ seen_none f ns

-- nothing new among these
seen_same : (f : ℕ → ℕ) (log later : Log) (ns : List ℕ) → ((n : ℕ) → IsAmong ns n → (has_of n later ≡ has_of n log) ⊎ (f n ≡ 0)) → seen f later ns ≡ seen f log ns
seen_same f log later [] same = refl
seen_same f log later (n ∷ ns) same =
    let rest = seen_same f log later ns (λ m k. same m (inr k)) in
    elim (same n (inl refl)) [
      | inl e ↦ ap (λ b. (if b then f n else 0) + seen f later ns) e ∙ ap (λ k. (if has_of n log then f n else 0) + k) rest
      | inr z ↦ ap (λ k. k + seen f later ns) (nothing (has_of n later) (f n) z ∙ sym (nothing (has_of n log) (f n) z)) ∙ ap (λ k. (if has_of n log then f n else 0) + k) rest
    ]
  where
    nothing : (b : Bool) (k : ℕ) → k ≡ 0 → (if b then k else 0) ≡ 0
    nothing true k z = z
    nothing false k z = refl

-- t is new among these
seen_one : (f : ℕ → ℕ) (log later : Log) (ns : List ℕ) (t : ℕ) → IsAscending ns → IsAmong ns t → ((n : ℕ) → n ≢ t → has_of n later ≡ has_of n log) →
    has_of t later ≡ true → has_of t log ≡ false → seen f later ns ≡ f t + seen f log ns
seen_one f log later [] t up m others on off = absurd m
seen_one f log later (n ∷ ns) t up (inl e) others on off =
    let a : has_of n later ≡ true = ap (λ k. has_of k later) (sym e) ∙ on in
    let b : has_of n log ≡ false = ap (λ k. has_of k log) (sym e) ∙ off in
    let rest = seen_same f log later ns (λ m k. inl (others m (λ z. (let lt = up.0 m k in omega (arith, lt, z, e))))) in
    ap (λ k. (if k then f n else 0) + seen f later ns) a ∙ ap (λ k. f n + k) rest ∙ ap (λ k. f k + seen f log ns) (sym e)
    ∙ ap (λ k. f t + k) (sym (zero-add (seen f log ns))) ∙ ap (λ k. f t + ((if k then f n else 0) + seen f log ns)) (sym b)
seen_one f log later (n ∷ ns) t up (inr m) others on off =
    let lt = up.0 t m in
    let rest = seen_one f log later ns t up.1 m others on off in
    let same : has_of n later ≡ has_of n log = others n (λ z. (let k : n ≡ t = z in omega (arith, lt, k))) in
    ap (λ k. (if k then f n else 0) + seen f later ns) same ∙ swap (if has_of n log then f n else 0) (f t) (seen f log ns) (seen f later ns) rest
  where
    swap : (a b c d : ℕ) → d ≡ b + c → a + d ≡ b + (a + c)
    swap a b c d e = omega (arith, e)

of_other : (n : ℕ) (r : Record) → n ≢ r.transaction → is_of n r ≡ false
of_other n r ne = elim (of_test n r) [ inl k ↦ absurd (ne (sym k.1.0)) | inr k ↦ k.0 ]

of_checkpoint : (n : ℕ) (r : Record) → (r.kind == 5) ≡ true → is_of n r ≡ false
of_checkpoint n r five = elim (of_test n r) [ inl k ↦ (let z : true ≡ false = sym five ∙ k.2 in cc) | inr k ↦ k.0 ]

of_self : (r : Record) → (r.kind == 5) ≡ false → is_of r.transaction r ≡ true
of_self r ne = elim (of_test r.transaction r) [ inl k ↦ k.0 | inr k ↦ elim k.1 [ inl five ↦ (let z : true ≡ false = sym five ∙ ne in cc) | inr other ↦ absurd (other refl) ] ]

or_off : (a b : Bool) → a ≡ false → (a || b) ≡ b
or_off a b e = ap (λ x. x || b) e

or_on : (a b : Bool) → b ≡ true → (a || b) ≡ b
or_on true b e = sym e
or_on false b e = refl

or_left : (a b : Bool) → a ≡ true → (a || b) ≡ true
or_left a b e = ap (λ x. x || b) e

seen_is : (f : ℕ → ℕ) (log : Log) (ns : List ℕ) → IsAscending ns → ((t : ℕ) → has_of t log ≡ true → IsAmong ns t ⊎ (f t ≡ 0)) → seen f log ns ≡ firsts f log
seen_is f [] ns up whole = seen_none f ns
seen_is f (r ∷ log) ns up whole = by_kind (r.kind == 5) (has_of r.transaction log) refl refl (seen_is f log ns up (λ t on. whole t (or_right (is_of t r) (has_of t log) on)))
  where
    or_right : (a b : Bool) → b ≡ true → (a || b) ≡ true
    or_right true b e = refl
    or_right false b e = e

    others : (n : ℕ) → n ≢ r.transaction → has_of n (r ∷ log) ≡ has_of n log
    others n ne = or_off (is_of n r) (has_of n log) (of_other n r ne)

    by_kind : (five has : Bool) → (r.kind == 5) ≡ five → has_of r.transaction log ≡ has → seen f log ns ≡ firsts f log →
        seen f (r ∷ log) ns ≡ (if not five && not has then f r.transaction else 0) + firsts f log
    by_kind true has five e again = seen_same f log (r ∷ log) ns (λ n m. inl (or_off (is_of n r) (has_of n log) (of_checkpoint n r five))) ∙ again ∙ sym (zero-add (firsts f log))
    by_kind false true five e again = seen_same f log (r ∷ log) ns (λ n m. elim (eqb_tells n r.transaction) [
      | inl same ↦ inl (or_on (is_of n r) (has_of n log) (ap (λ k. has_of k log) same.1 ∙ e))
      | inr ne ↦ inl (others n ne.1)
    ]) ∙ again ∙ sym (zero-add (firsts f log))
    by_kind false false five e again = elim (whole r.transaction (or_left (is_of r.transaction r) (has_of r.transaction log) (of_self r five))) [
      | inl m ↦ seen_one f log (r ∷ log) ns r.transaction up m others (or_left (is_of r.transaction r) (has_of r.transaction log) (of_self r five)) e ∙ ap (λ k. f r.transaction + k) again
      | inr z ↦ seen_same f log (r ∷ log) ns (λ n m. elim (eqb_tells n r.transaction) [
        | inl same ↦ inr (ap f same.1 ∙ z)
        | inr ne ↦ inl (others n ne.1)
      ]) ∙ again ∙ sym (zero-add (firsts f log)) ∙ sym (ap (λ k. k + firsts f log) z)
    ]

seen_all : (f : ℕ → ℕ) (log : Log) (ns : List ℕ) → ((n : ℕ) → IsAmong ns n → has_of n log ≡ true) → seen f log ns ≡ sum_by f ns
seen_all f log [] each = refl
seen_all f log (n ∷ ns) each =
    ap (λ b. (if b then f n else 0) + seen f log ns) (each n (inl refl)) ∙ ap (λ k. f n + k) (seen_all f log ns (λ m k. each m (inr k))) ∙ sym (sum_by-cons f n ns)

-- ---- over all partitions

parts_sum : (ℕ → ℕ) → (ℕ → ℕ) → ℕ → Log → ℕ
parts_sum part f zero log = 0
parts_sum part f (suc n) log = parts_sum part f n log + sum_over part n f log

total_is : (part : ℕ → ℕ) (n : ℕ) (log : Log) → total_need part n log ≡ parts_sum part (need_of log) n log
unfolding parts_sum
total_is part zero log = refl
total_is part (suc n) log = ap (λ k. k + need_in part n log) (total_is part n log)

parts_none : (part f : ℕ → ℕ) (n : ℕ) → parts_sum part f n [] ≡ 0
unfolding parts_sum
parts_none part f zero = refl
parts_none part f (suc n) = ap (λ k. k + 0) (parts_none part f n)

counted_is : (part f : ℕ → ℕ) (p : ℕ) (r : Record) (earlier : Log) → need_at part p f r earlier ≡ (if part r.at == p then first f r earlier else 0)
counted_is part f p r earlier = by (not (r.kind == 5)) (not (has_of r.transaction earlier)) (part r.at == p)
  where
    by : (a b c : Bool) → (if a && (b && c) then f r.transaction else 0) ≡ (if c then (if a && b then f r.transaction else 0) else 0)
    by true true true = refl
    by true true false = refl
    by true false true = refl
    by true false false = refl
    by false b true = refl
    by false b false = refl

parts_past : (part f : ℕ → ℕ) (n : ℕ) (r : Record) (log : Log) → n ≤ part r.at → parts_sum part f n (r ∷ log) ≡ parts_sum part f n log
unfolding parts_sum
parts_past part f zero r log le = refl
parts_past part f (suc n) r log le =
    let off : (part r.at == n) ≡ false = not_eq (part r.at) n (λ e. omega (arith, le, e)) in
    let none : need_at part n f r log ≡ 0 = counted_is part f n r log ∙ ap (λ b. if b then first f r log else 0) off in
    ap (λ k. k + sum_over part n f (r ∷ log)) (parts_past part f n r log (omega (arith, le))) ∙ ap (λ k. parts_sum part f n log + (k + sum_over part n f log)) none
    ∙ ap (λ k. parts_sum part f n log + k) (zero-add (sum_over part n f log))
  where
    not_eq : (a b : ℕ) → a ≢ b → (a == b) ≡ false
    not_eq a b ne = grind (arith, nat_tests, ne)

parts_more : (part f : ℕ → ℕ) (n : ℕ) (r : Record) (log : Log) → part r.at < n → parts_sum part f n (r ∷ log) ≡ first f r log + parts_sum part f n log
unfolding parts_sum
parts_more part f zero r log lt = absurd (omega (arith, lt))
parts_more part f (suc n) r log lt = elim (eqb_tells (part r.at) n) [
  | inl e ↦ (
      let here : need_at part n f r log ≡ first f r log = counted_is part f n r log ∙ ap (λ b. if b then first f r log else 0) e.0 in
      let same = e.1 in
      let past = parts_past part f n r log (omega (arith, same)) in
      join (parts_sum part f n (r ∷ log)) (parts_sum part f n log) (need_at part n f r log) (first f r log) (sum_over part n f log) past here)
  | inr e ↦ (
      let none : need_at part n f r log ≡ 0 = counted_is part f n r log ∙ ap (λ b. if b then first f r log else 0) e.0 in
      let ne = e.1 in
      let more = parts_more part f n r log (omega (arith, lt, ne)) in
      join_later (parts_sum part f n (r ∷ log)) (parts_sum part f n log) (need_at part n f r log) (first f r log) (sum_over part n f log) more none)
]
  where
    join : (a b c d e : ℕ) → a ≡ b → c ≡ d → a + (c + e) ≡ d + (b + e)
    join a b c d e p q = omega (arith, p, q)

    join_later : (a b c d e : ℕ) → a ≡ d + b → c ≡ 0 → a + (c + e) ≡ d + (b + e)
    join_later a b c d e p q = omega (arith, p, q)

parts_are : (part f : ℕ → ℕ) (n : ℕ) (log : Log) → ((r : Record) → IsAmong log r → part r.at < n) → parts_sum part f n log ≡ firsts f log
parts_are part f n [] inside = parts_none part f n
parts_are part f n (r ∷ log) inside = parts_more part f n r log (inside r (inl refl)) ∙ ap (λ k. first f r log + k) (parts_are part f n log (λ s m. inside s (inr m)))

sum_map : (f : ℕ → ℕ) (all : List Transaction) → sum_by f (map number_of all) ≡ sum_by (λ (t : Transaction). f t.number) all
sum_map f [] = refl
sum_map f (t ∷ all) = sum_by-cons f t.number (map number_of all) ∙ ap (λ k. f t.number + k) (sum_map f all) ∙ sym (sum_by-cons (λ (u : Transaction). f u.number) t all)

-- the needs of the running transactions are those of all partitions
pub needs_are : (part : ℕ → ℕ) (n : ℕ) (log : Log) (undo : List Transaction) → ((r : Record) → IsAmong log r → part r.at < n) → AreThose (IsLoser log) (map number_of undo) →
    sum_by (λ (t : Transaction). need_of log t.number) undo ≡ total_need part n log
needs_are part n log undo inside those =
    sym (sum_map (need_of log) undo) ∙ sym (seen_all (need_of log) log (map number_of undo) (λ m k. has_of_true m log ((those.each m).0 k).0))
    ∙ seen_is (need_of log) log (map number_of undo) those.ascending (λ t on. elim (ended_or_running log t) [
      | inl ended ↦ inr (none t ended)
      | inr running ↦ inl ((those.each t).1 (of_has t log on, running))
    ])
    ∙ sym (parts_are part (need_of log) n log inside) ∙ sym (total_is part n log)
  where
    none : (t : ℕ) → IsEnded log t → need_of log t ≡ 0
    none t ended = rw (has_kind_true t 4 log ended) refl

    of_has : (t : ℕ) (log : Log) → has_of t log ≡ true → Has (IsOf t) log
    of_has t [] on = cc
    of_has t (r ∷ log) on = elim (or_true (is_of t r) (has_of t log) on) [
      | inl later ↦ (let k = of_has t log later in (k.0, inr k.1, k.2))
      | inr here ↦ elim (of_test t r) [ inl k ↦ (r, inl refl, k.1) | inr k ↦ (let z : true ≡ false = sym here ∙ k.0 in cc) ]
    ]

-- ---- no record is passed twice

pub filter_or : {X : Type 0} (p q : X → Bool) (xs : List X) → ((x : X) → IsAmong xs x → p x ≡ true → q x ≡ true → ⊥) →
    length (filter p xs) + length (filter q xs) ≡ length (filter (λ x. p x || q x) xs)
filter_or p q [] apart = refl
filter_or p q (x ∷ xs) apart = by (p x) (q x) refl refl (filter_or p q xs (λ y m. apart y (inr m)))
  where
    by : (a b : Bool) → p x ≡ a → q x ≡ b → length (filter p xs) + length (filter q xs) ≡ length (filter (λ y. p y || q y) xs) →
        length (cond a (x ∷ filter p xs) (filter p xs)) + length (cond b (x ∷ filter q xs) (filter q xs)) ≡ length (cond (a || b) (x ∷ filter (λ y. p y || q y) xs) (filter (λ y. p y || q y) xs))
    by true true e k again = absurd (apart x (inl refl) e k)
    by true false e k again = omega (arith, again)
    by false true e k again = omega (arith, again)
    by false false e k again = again

pub filter_few : {X : Type 0} (p : X → Bool) (xs : List X) → length (filter p xs) ≤ length xs
filter_few p [] = omega arith
filter_few p (x ∷ xs) = by (p x) (filter_few p xs)
  where
    by : (b : Bool) → length (filter p xs) ≤ length xs → length (cond b (x ∷ filter p xs) (filter p xs)) ≤ suc (length xs)
    by true le = omega (arith, le)
    by false le = omega (arith, le)

-- the records of the transactions with these numbers
abbrev pub of_numbers : List ℕ → Placed → Bool
of_numbers ns x = has_number ns x.cell.transaction && not (x.cell.kind == 5)

abbrev of_number : ℕ → Placed → Bool
of_number n x = is_of n (record_of_placed x)

lengths : List Placed → List ℕ → ℕ
lengths xs [] = 0
lengths xs (n ∷ ns) = length (filter (of_number n) xs) + lengths xs ns

has_below : (ns : List ℕ) (n : ℕ) → ((m : ℕ) → IsAmong ns m → n < m) → has_number ns n ≡ true → ⊥
has_below [] n above on = cc
has_below (m ∷ ns) n above on = elim (or_true (m == n) (has_number ns n) on) [
  | inl later ↦ has_below ns n (λ k j. above k (inr j)) later
  | inr here ↦ (let lt = above m (inl refl) in let e = eq_true m n here in omega (arith, lt, e))
]

filter_by : {X : Type 0} (p q : X → Bool) (xs : List X) → ((x : X) → p x ≡ q x) → length (filter p xs) ≡ length (filter q xs)
filter_by p q [] same = refl
filter_by p q (x ∷ xs) same = ap (λ b. length (cond b (x ∷ filter p xs) (filter p xs))) (same x) ∙ by (q x) (filter_by p q xs same)
  where
    by : (b : Bool) → length (filter p xs) ≡ length (filter q xs) → length (cond b (x ∷ filter p xs) (filter p xs)) ≡ length (cond b (x ∷ filter q xs) (filter q xs))
    by true e = ap suc e
    by false e = e

lengths_are : (xs : List Placed) (ns : List ℕ) → IsAscending ns → lengths xs ns ≡ length (filter (of_numbers ns) xs)
unfolding lengths
lengths_are xs [] up = sym (filter_off xs)
  where
    filter_off : (xs : List Placed) → length (filter (of_numbers []) xs) ≡ 0
    filter_off [] = refl
    filter_off (x ∷ xs) = filter_off xs
lengths_are xs (n ∷ ns) up =
    ap (λ k. length (filter (of_number n) xs) + k) (lengths_are xs ns up.1)
    ∙ filter_or (of_number n) (of_numbers ns) xs (λ x m a b. has_below ns n up.0 (apart x a b))
    ∙ filter_by (λ x. of_number n x || of_numbers ns x) (of_numbers (n ∷ ns)) xs (λ x. same x)
  where
    apart : (x : Placed) → of_number n x ≡ true → of_numbers ns x ≡ true → has_number ns n ≡ true
    apart x a b =
        let own = eq_true x.cell.transaction n (both_true (x.cell.transaction == n) (not (x.cell.kind == 5)) a).0 in
        ap (has_number ns) (sym own) ∙ (both_true (has_number ns x.cell.transaction) (not (x.cell.kind == 5)) b).0

    swap : (a b : ℕ) → (a == b) ≡ (b == a)
    swap a b = elim (eqb_tells a b) [ inl e ↦ e.0 ∙ sym (true_eq b a (sym e.1)) | inr e ↦ (let ne = e.1 in let f : (b == a) ≡ false = grind (arith, nat_tests, ne) in e.0 ∙ sym f) ]

    same : (x : Placed) → (of_number n x || of_numbers ns x) ≡ of_numbers (n ∷ ns) x
    same x = by (x.cell.transaction == n) (n == x.cell.transaction) (not (x.cell.kind == 5)) (has_number ns x.cell.transaction) (swap x.cell.transaction n)
      where
        by : (a b k h : Bool) → a ≡ b → ((a && k) || (h && k)) ≡ ((b || h) && k)
        by true true true h e = refl
        by true true false h e = or_false_right h
          where
            or_false_right : (h : Bool) → (h && false) ≡ false
            or_false_right true = refl
            or_false_right false = refl
        by false false k h e = refl
        by true false k h e = cc
        by false true k h e = cc

own_length : (merged : List Placed) (log : Log) (t : Transaction) → reverse (map record_of_placed merged) ≡ log → IsTransactionOf log t →
    length t.records ≡ length (filter (of_number t.number) merged)
own_length merged log t is h =
    sym (length-map t.records record_of_placed) ∙ sym (length-reverse (map record_of_placed t.records)) ∙ ap length h.records ∙ ap length (records_filtered t.number log)
    ∙ ap (λ l. length (filter (is_of t.number) l)) (sym is) ∙ ap length (filter_reverse (is_of t.number) (map record_of_placed merged))
    ∙ length-reverse (filter (is_of t.number) (map record_of_placed merged)) ∙ ap length (filter_map_is (is_of t.number) record_of_placed merged)
    ∙ length-map (filter (of_number t.number) merged) record_of_placed

own_lengths : (merged : List Placed) (log : Log) (all : List Transaction) → reverse (map record_of_placed merged) ≡ log → ((t : Transaction) → IsAmong all t → IsTransactionOf log t) →
    sum_by (λ (t : Transaction). length t.records) all ≡ lengths merged (map number_of all)
unfolding lengths
own_lengths merged log [] is each = refl
own_lengths merged log (t ∷ all) is each =
    sum_by-cons (λ (u : Transaction). length u.records) t all ∙ ap (λ k. k + sum_by (λ (u : Transaction). length u.records) all) (own_length merged log t is (each t (inl refl)))
    ∙ ap (λ k. length (filter (of_number t.number) merged) + k) (own_lengths merged log all is (λ u m. each u (inr m)))

pub passed_records : (merged : List Placed) (log : Log) (undo : List Transaction) → reverse (map record_of_placed merged) ≡ log → ((t : Transaction) → IsAmong undo t → IsTransactionOf log t) →
    IsAscending (map number_of undo) → sum_by (λ (t : Transaction). length t.records) undo ≡ length (filter (of_numbers (map number_of undo)) merged)
passed_records merged log undo is each up = own_lengths merged log undo is each ∙ lengths_are merged (map number_of undo) up

-- ---- the loop over the needs

abbrev need_there : Log → Transaction → ℕ
need_there log t = need_of log t.number

one_need : (log : Log) (all : List Transaction) (i : ℕ) (t : Transaction) (need : ℕ) → AreSmall log all → i < length all → get_or all i t ≡ t →
    ((l : Log) → IsTransactionOf l t → need ≡ need_of l t.number) → need ≡ need_there log (get_or all i t)
one_need log all i t need h lt is says = says log (h.each t (subst (IsAmong all) is (among_at all i t lt))) ∙ ap (need_there log) (sym is)

pub needs_more : (log : Log) (all : List Transaction) (i : ℕ) (t : Transaction) (total need : ℕ) → AreSmall log all → i < length all → get_or all i t ≡ t →
    total ≡ sum_by (need_there log) (take i all) → ((l : Log) → IsTransactionOf l t → need ≡ need_of l t.number) → total + need ≡ sum_by (need_there log) (take (i + 1) all)
needs_more log all i t total need h lt is so_far says =
    ap (λ k. k + need) so_far ∙ ap (λ k. sum_by (need_there log) (take i all) + k) (one_need log all i t need h lt is says) ∙ sym (sum_by_more (need_there log) all i t lt)

pub needs_fit : (log : Log) (all : List Transaction) (i : ℕ) (t : Transaction) (total need : ℕ) → AreSmall log all → i < length all → get_or all i t ≡ t →
    total ≡ sum_by (need_there log) (take i all) → ((l : Log) → IsTransactionOf l t → need ≡ need_of l t.number) → total + need < 2 ^ 64
needs_fit log all i t total need h lt is so_far says =
    let le = sum_by_more_le (need_there log) all i t lt in
    let one = one_need log all i t need h lt is says in
    let small = h.small in
    omega (arith, le, one, so_far, small)

pub needs_whole : (log : Log) (all : List Transaction) (i total : ℕ) → length all ≤ i → total ≡ sum_by (need_there log) (take i all) → total ≡ sum_by (need_there log) all
needs_whole log all i total le h = h ∙ ap (sum_by (need_there log)) (take_whole i all le)

pub needs_less : (log : Log) (all : List Transaction) → sum_by (λ (t : Transaction). need_of log t.number - 1) all ≤ sum_by (need_there log) all
needs_less log [] = omega arith
needs_less log (t ∷ all) =
    let a = sum_by-cons (λ (u : Transaction). need_of log u.number - 1) t all in
    let b = sum_by-cons (need_there log) t all in
    let rest = needs_less log all in
    omega (arith, a, b, rest)
