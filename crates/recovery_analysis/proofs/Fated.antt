-- What the records of a transaction say of it.
use Rattle.std.proofs.Common.{◌≡◌, ◌≢◌, ◌⊎◌, ◌↔◌, inl, inr, ℕ, zero, suc, ◌+◌, ◌-◌, ◌<◌, ◌≤◌, Bool, true, false, not, ◌==◌, ◌&&◌, ◌||◌, if◌then◌else◌, List, [], ◌∷◌, length, map, reverse, take, get_or, nat_lt, refl, sym, ap, ◌∙◌, subst, arith}
use Rattle.std.specs.Prelude.{IsTrue}
use Rattle.std.specs.List.{list_any}
use Rattle.std.proofs.Math.Seq.{take-suc}
use Rattle.std.proofs.lemmas.List.{map-append, reverse-append}
use Rattle.std.proofs.lemmas.Bool.Decides.{nat_tests, eqb_tells}
use Rattle.persist_model.specs.Records.{Record, Log, IsAmong, Has, IsOf, IsEndOf, IsCheckpoint, IsRunning, IsCommitted, IsSkipped}
use Rattle.persist_model.specs.Order.{is_kind_of}
use Rattle.persist_model.specs.Need.{rest, to_undo, has_kind_of, need_of, is_of}
use Rattle.bucket_log.specs.declared.scanning.Placed.{Placed}
use Rattle.bucket_log.specs.Scans.{record_of_placed}
use Rattle.log_laws.proofs.Needs.{of_test, has_kind_true, has_kind_false}
use Rattle.recovery_run.specs.Groups.{records_of}
use Rattle.recovery_analysis.specs.declared.grouping.Transaction.{Transaction}
use Rattle.recovery_analysis.specs.Grouping.{IsTransactionOf}
use Rattle.recovery_analysis.specs.Fates.{IsNewestCheckpoint}
use Rattle.recovery_analysis.proofs.Lists.{among_at, map_among, among_map, reverse_among, among_reverse, filter_among, among_filter}
use Rattle.recovery_analysis.proofs.Runs.{records_filtered}

-- ---- a test of some record

pub or_cases : (a b : Bool) → (a || b) ≡ true → (a ≡ true) ⊎ (b ≡ true)
or_cases true b h = inl refl
or_cases false b h = inr h

or_none : (a b : Bool) → (a || b) ≡ false → (a ≡ false) × (b ≡ false)
or_none true b h = cc
or_none false b h = (refl, h)

pub any_some : {X : Type 0} (p : X → Bool) (xs : List X) → list_any p xs ≡ true → (x : X) × IsAmong xs x × (p x ≡ true)
any_some p [] h = cc
any_some p (x ∷ xs) h = elim (or_cases (p x) (list_any p xs) h) [ inl on ↦ (x, inl refl, on) | inr k ↦ (let z = any_some p xs k in (z.0, inr z.1, z.2)) ]

pub any_none : {X : Type 0} (p : X → Bool) (xs : List X) → list_any p xs ≡ false → (x : X) → IsAmong xs x → p x ≡ true → ⊥
any_none p [] h x m on = absurd m
any_none p (y ∷ ys) h x m on = let k = or_none (p y) (list_any p ys) h in elim m [
  | inl e ↦ (let z : p y ≡ true = ap p (sym e) ∙ on in clash (p y) z k.0)
  | inr j ↦ any_none p ys k.1 x j on
]
  where
    clash : (b : Bool) → b ≡ true → b ≡ false → ⊥
    clash b on off = cc

-- ---- the records of a transaction are those of the log

pub own_record : (log : Log) (t : Transaction) → IsTransactionOf log t → (x : Placed) → IsAmong t.records x → IsAmong log (record_of_placed x) × IsOf t.number (record_of_placed x)
own_record log t h x m =
    let k = subst (λ rs. IsAmong rs (record_of_placed x)) (h.records ∙ records_filtered t.number log)
    (reverse_among (map record_of_placed t.records) (record_of_placed x) (map_among record_of_placed t.records x m)) in
    let j = filter_among (is_of t.number) log (record_of_placed x) k in
    (j.0, of_yes t.number (record_of_placed x) j.1)
  where
    of_yes : (n : ℕ) (r : Record) → is_of n r ≡ true → IsOf n r
    of_yes n r on = elim (of_test n r) [ inl k ↦ k.1 | inr k ↦ (let z : true ≡ false = sym on ∙ k.0 in cc) ]

of_true : (n : ℕ) (r : Record) → IsOf n r → is_of n r ≡ true
of_true n r of = elim (of_test n r) [
  | inl k ↦ k.0
  | inr k ↦ elim k.1 [ inl five ↦ absurd (kind_five r five of.1) | inr other ↦ absurd (other of.0) ]
]
  where
    kind_five : (r : Record) → (r.kind == 5) ≡ true → r.kind ≢ 5 → ⊥
    kind_five r on ne = elim (eqb_tells r.kind 5) [ inl e ↦ ne e.1 | inr e ↦ (let z : true ≡ false = sym on ∙ e.0 in cc) ]

pub record_own : (log : Log) (t : Transaction) → IsTransactionOf log t → (r : Record) → IsAmong log r → IsOf t.number r → (x : Placed) × IsAmong t.records x × (r ≡ record_of_placed x)
record_own log t h r m of =
    let k = among_filter (is_of t.number) log r m (of_true t.number r of) in
    among_map record_of_placed t.records r
    (among_reverse (map record_of_placed t.records) r (subst (λ rs. IsAmong rs r) (sym (h.records ∙ records_filtered t.number log)) k))

pub eq_true : (a b : ℕ) → (a == b) ≡ true → a ≡ b
eq_true a b h = grind (arith, nat_tests, h)

pub true_eq : (a b : ℕ) → a ≡ b → (a == b) ≡ true
true_eq a b h = grind (arith, nat_tests, h)

-- ---- running, committed, skipped

is_end_kind : (log : Log) (t : Transaction) → IsTransactionOf log t → (r : Record) → IsAmong log r → IsEndOf t.number r →
    (x : Placed) × IsAmong t.records x × (r ≡ record_of_placed x)
is_end_kind log t h r m end = record_own log t h r m (end.1, λ five. (let four = end.0 in absurd (omega (arith, four, five))))

pub running_is : (log : Log) (t : Transaction) (result : Bool) → IsTransactionOf log t → result ≡ not (list_any (λ (x : Placed). x.cell.kind == 4) t.records) →
    IsTrue result ↔ IsRunning log t.number
running_is log t result h is = by (list_any (λ (x : Placed). x.cell.kind == 4) t.records) refl is
  where
    by : (b : Bool) → list_any (λ (x : Placed). x.cell.kind == 4) t.records ≡ b → result ≡ not b → IsTrue result ↔ IsRunning log t.number
    by true found e = (
      (λ on. (let z : true ≡ false = sym on ∙ e in cc)),
      (λ running. (let k = any_some (λ (x : Placed). x.cell.kind == 4) t.records found in let own = own_record log t h k.0 k.1 in
          absurd (running (record_of_placed k.0) own.0 (eq_true k.0.cell.kind 4 k.2, own.1.0)))),
    )
    by false found e = (
      (λ on r m end. (let k = is_end_kind log t h r m end in
          any_none (λ (x : Placed). x.cell.kind == 4) t.records found k.0 k.1 (true_eq k.0.cell.kind 4 (sym (ap (λ (y : Record). y.kind) k.2) ∙ end.0)))),
      (λ running. e),
    )

pub both_true : (a b : Bool) → (a && b) ≡ true → (a ≡ true) × (b ≡ true)
both_true true b h = (refl, h)
both_true false b h = cc

pub true_both : (a b : Bool) → a ≡ true → b ≡ true → (a && b) ≡ true
true_both a b h k = rw (h, k) refl

abbrev pub is_commit : Placed → Bool
is_commit x = (x.cell.kind == 4) && (x.cell.outcome == 1)

pub committed_is : (log : Log) (t : Transaction) (result : Bool) → IsTransactionOf log t → result ≡ list_any is_commit t.records → IsTrue result ↔ IsCommitted log t.number
committed_is log t result h is = (
  (λ on. (let k = any_some is_commit t.records (sym is ∙ on) in let own = own_record log t h k.0 k.1 in
      let both = both_true (k.0.cell.kind == 4) (k.0.cell.outcome == 1) k.2 in
      (record_of_placed k.0, own.0, ((eq_true k.0.cell.kind 4 both.0, own.1.0), eq_true k.0.cell.outcome 1 both.1)))),
  (λ won. by (list_any is_commit t.records) refl won),
)
  where
    by : (b : Bool) → list_any is_commit t.records ≡ b → IsCommitted log t.number → IsTrue result
    by true found won = is ∙ found
    by false found won =
        let k = is_end_kind log t h won.0 won.1 won.2.0 in
        absurd (any_none is_commit t.records found k.0 k.1 (true_both (k.0.cell.kind == 4) (k.0.cell.outcome == 1)
        (true_eq k.0.cell.kind 4 (sym (ap (λ (y : Record). y.kind) k.2) ∙ won.2.0.0)) (true_eq k.0.cell.outcome 1 (sym (ap (λ (y : Record). y.outcome) k.2) ∙ won.2.1))))

pub less_true : (a b : ℕ) → nat_lt a b ≡ true → a < b
less_true a b h = grind (arith, nat_tests, h)

pub true_less : (a b : ℕ) → a < b → nat_lt a b ≡ true
true_less a b h = grind (arith, nat_tests, h)

abbrev pub is_end_below : ℕ → Placed → Bool
is_end_below c x = (x.cell.kind == 4) && nat_lt x.cell.lsn c

pub skipped_is : (log : Log) (t : Transaction) (c : ℕ) (result : Bool) → IsTransactionOf log t → IsNewestCheckpoint log c → result ≡ list_any (is_end_below c) t.records →
    IsTrue result ↔ IsSkipped log t.number
skipped_is log t c result h newest is = (
  (λ on. (let k = any_some (is_end_below c) t.records (sym is ∙ on) in let own = own_record log t h k.0 k.1 in
      let both = both_true (k.0.cell.kind == 4) (nat_lt k.0.cell.lsn c) k.2 in
      (record_of_placed k.0, own.0, ((eq_true k.0.cell.kind 4 both.0, own.1.0), (newest k.0.cell.lsn).0 (less_true k.0.cell.lsn c both.1))))),
  (λ skipped. by (list_any (is_end_below c) t.records) refl skipped),
)
  where
    by : (b : Bool) → list_any (is_end_below c) t.records ≡ b → IsSkipped log t.number → IsTrue result
    by true found skipped = is ∙ found
    by false found skipped =
        let k = is_end_kind log t h skipped.0 skipped.1 skipped.2.0 in
        let lsn : skipped.0.lsn ≡ k.0.cell.lsn = ap (λ (y : Record). y.lsn) k.2 in
        let lt : k.0.cell.lsn < c = (newest k.0.cell.lsn).1 (subst (λ n. Has (λ (r : Record). IsCheckpoint r × (n < r.lsn)) log) lsn skipped.2.1) in
        absurd (any_none (is_end_below c) t.records found k.0 k.1 (true_both (k.0.cell.kind == 4) (nat_lt k.0.cell.lsn c)
        (true_eq k.0.cell.kind 4 (sym (ap (λ (y : Record). y.kind) k.2) ∙ skipped.2.0.0)) (true_less k.0.cell.lsn c lt)))

-- ---- one record more

-- the log of the first i + 1 of the merged records
pub log_more : (xs : List Placed) (i : ℕ) (d : Placed) → i < length xs →
    reverse (map record_of_placed (take (i + 1) xs)) ≡ record_of_placed (get_or xs i d) ∷ reverse (map record_of_placed (take i xs))
log_more xs i d lt =
    let e : i + 1 ≡ suc i = omega arith in
    ap (λ n. reverse (map record_of_placed (take n xs))) e ∙ ap (λ ys. reverse (map record_of_placed ys)) (take-suc xs i d lt)
    ∙ ap reverse (map-append record_of_placed (take i xs) (get_or xs i d ∷ []))
    ∙ reverse-append (map record_of_placed (take i xs)) (record_of_placed (get_or xs i d) ∷ [])

pub take_whole : {X : Type 0} (i : ℕ) (xs : List X) → length xs ≤ i → take i xs ≡ xs
take_whole zero [] le = refl
take_whole zero (x ∷ xs) le = absurd (omega (arith, le))
take_whole (suc i) [] le = refl
take_whole (suc i) (x ∷ xs) le = ap (λ ys. x ∷ ys) (take_whole i xs (omega (arith, le)))

-- what holds of the log of the first records holds of the whole, once all are read
pub all_read : (P : Log → Type 0) (xs : List Placed) (i : ℕ) → length xs ≤ i → P (reverse (map record_of_placed (take i xs))) → P (reverse (map record_of_placed xs))
all_read P xs i le h = subst (λ ys. P (reverse (map record_of_placed ys))) (take_whole i xs le) h

pub checkpoint_begins : IsNewestCheckpoint [] 0
checkpoint_begins e = ((λ lt. absurd (omega (arith, lt))), λ h. absurd h.1)

pub checkpoint_more : (log later : Log) (r : Record) (c d : ℕ) → later ≡ r ∷ log → ((e : ℕ) → (e < d) ↔ ((e < c) ⊎ ((r.kind ≡ 5) × (e < r.lsn)))) →
    IsNewestCheckpoint log c → IsNewestCheckpoint later d
checkpoint_more log later r c d more says h = subst (λ rs. IsNewestCheckpoint rs d) (sym more) (λ e. (
  (λ lt. elim ((says e).0 lt) [ inl before ↦ (let k = (h e).0 before in (k.0, inr k.1, k.2)) | inr new ↦ (r, inl refl, new) ]),
  (λ k. (says e).1 (elim k.1 [ inl same ↦ inr (subst (λ (y : Record). IsCheckpoint y × (e < y.lsn)) same k.2) | inr m ↦ inl ((h e).1 (k.0, m, k.2)) ])),
))

pub checkpoint_read : (xs : List Placed) (i c later : ℕ) (d : Placed) → i < length xs →
    ((e : ℕ) → (e < later) ↔ ((e < c) ⊎ (((get_or xs i d).cell.kind ≡ 5) × (e < (get_or xs i d).cell.lsn)))) →
    IsNewestCheckpoint (reverse (map record_of_placed (take i xs))) c → IsNewestCheckpoint (reverse (map record_of_placed (take (i + 1) xs))) later
checkpoint_read xs i c later d lt says h =
    checkpoint_more (reverse (map record_of_placed (take i xs))) (reverse (map record_of_placed (take (i + 1) xs))) (record_of_placed (get_or xs i d)) c later (log_more xs i d lt) says h

-- ---- the need

kind_other : (n k : ℕ) (r : Record) → k ≢ 5 → is_of n r ≡ false → is_kind_of n k r ≡ false
kind_other n k r ne off = elim (of_test n r) [
  | inl z ↦ (let y : true ≡ false = sym z.0 ∙ off in cc)
  | inr z ↦ elim z.1 [
    | inl five ↦ elim (eqb_tells r.transaction n) [
      | inl own ↦ (let e = eq_true r.kind 5 five in let f : (r.kind == k) ≡ false = grind (arith, nat_tests, e, ne) in rw (own.0, f) refl)
      | inr other ↦ (rw other.0 refl)
    ]
    | inr other ↦ (let f : (r.transaction == n) ≡ false = grind (arith, nat_tests, other) in rw f refl)
  ]
]

pub stack_of_records : (n : ℕ) (log : Log) → to_undo n (records_of n log) ≡ to_undo n log
stack_of_records n [] = refl
stack_of_records n (r ∷ log) = by (is_of n r) refl (stack_of_records n log)
  where
    by : (b : Bool) → is_of n r ≡ b → to_undo n (records_of n log) ≡ to_undo n log → to_undo n (if b then r ∷ records_of n log else records_of n log) ≡ to_undo n (r ∷ log)
    by true e again = ap (λ (xs : Log). if is_kind_of n 1 r then r ∷ xs else (if is_kind_of n 2 r then rest xs else xs)) again
    by false e again = again ∙ (rw (kind_other n 1 r (omega arith) e, kind_other n 2 r (omega arith) e) refl)

length-rest : (log : Log) → length (rest log) ≡ length log - 1
length-rest [] = refl
length-rest (r ∷ log) = omega arith

-- the updates that are waiting, with one record more
pub waiting_more : (t waiting more : ℕ) (log later : Log) (r : Record) → later ≡ r ∷ log → r.transaction ≡ t → waiting ≡ length (to_undo t log) →
    more ≡ (if r.kind == 1 then waiting + 1 else (if r.kind == 2 then waiting - 1 else waiting)) → more ≡ length (to_undo t later)
waiting_more t waiting more log later r grown own so_far is =
    let on : (r.transaction == t) ≡ true = true_eq r.transaction t own in
    is ∙ by (r.kind == 1) (r.kind == 2) ∙ sym (ap (λ b. length (if b && (r.kind == 1) then r ∷ to_undo t log else (if b && (r.kind == 2) then rest (to_undo t log) else to_undo t log))) on)
    ∙ ap (λ rs. length (to_undo t rs)) (sym grown)
  where
    by : (a b : Bool) → (if a then waiting + 1 else (if b then waiting - 1 else waiting)) ≡ length (if a then r ∷ to_undo t log else (if b then rest (to_undo t log) else to_undo t log))
    by true b = ap (λ n. n + 1) so_far ∙ omega arith
    by false true = ap (λ n. n - 1) so_far ∙ sym (length-rest (to_undo t log))
    by false false = so_far

pub waiting_read : (xs : List Placed) (i t waiting more : ℕ) (d : Placed) → i < length xs → ((x : Placed) → IsAmong xs x → x.cell.transaction ≡ t) →
    more ≡ (if (get_or xs i d).cell.kind == 1 then waiting + 1 else (if (get_or xs i d).cell.kind == 2 then waiting - 1 else waiting)) →
    waiting ≡ length (to_undo t (reverse (map record_of_placed (take i xs)))) → more ≡ length (to_undo t (reverse (map record_of_placed (take (i + 1) xs))))
waiting_read xs i t waiting more d lt own is so_far =
    waiting_more t waiting more (reverse (map record_of_placed (take i xs))) (reverse (map record_of_placed (take (i + 1) xs))) (record_of_placed (get_or xs i d)) (log_more xs i d lt)
    (own (get_or xs i d) (among_at xs i d lt)) so_far is

pub waiting_all : (xs : List Placed) (i t waiting : ℕ) → length xs ≤ i → waiting ≡ length (to_undo t (reverse (map record_of_placed (take i xs)))) →
    waiting ≡ length (to_undo t (reverse (map record_of_placed xs)))
waiting_all xs i t waiting le h = h ∙ ap (λ ys. length (to_undo t (reverse (map record_of_placed ys)))) (take_whole i xs le)

kind_of_any : (log : Log) (t : Transaction) (k : ℕ) → k ≢ 5 → IsTransactionOf log t → has_kind_of t.number k log ≡ list_any (λ (x : Placed). x.cell.kind == k) t.records
kind_of_any log t k ne h = by (list_any (λ (x : Placed). x.cell.kind == k) t.records) refl
  where
    by : (b : Bool) → list_any (λ (x : Placed). x.cell.kind == k) t.records ≡ b → has_kind_of t.number k log ≡ b
    by true found =
        let x = any_some (λ (x : Placed). x.cell.kind == k) t.records found in
        let own = own_record log t h x.0 x.1 in
        has_kind_true t.number k log (record_of_placed x.0, own.0, (eq_true x.0.cell.kind k x.2, own.1.0))
    by false found = has_kind_false t.number k log (λ r m of.
        (let x = record_own log t h r m (of.1, λ five. ne (sym of.0 ∙ five)) in
        any_none (λ (x : Placed). x.cell.kind == k) t.records found x.0 x.1 (true_eq x.0.cell.kind k (sym (ap (λ (y : Record). y.kind) x.2) ∙ of.0))))

pub own_transaction : (log : Log) (t : Transaction) → IsTransactionOf log t → (x : Placed) → IsAmong t.records x → x.cell.transaction ≡ t.number
own_transaction log t h x m = (own_record log t h x m).1.0

pub need_ended : (log : Log) (t : Transaction) → IsTransactionOf log t → list_any (λ (x : Placed). x.cell.kind == 4) t.records ≡ true → 0 ≡ need_of log t.number
need_ended log t h found = rw (kind_of_any log t 4 (omega arith) h, found) refl

pub need_running : (log : Log) (t : Transaction) (xs : List Placed) (waiting rollback : ℕ) → IsTransactionOf log t → xs ≡ t.records → list_any (λ (x : Placed). x.cell.kind == 4) xs ≡ false →
    rollback ≡ (if list_any (λ (x : Placed). x.cell.kind == 3) xs then 0 else 1) →
    ((n : ℕ) → ((x : Placed) → IsAmong xs x → x.cell.transaction ≡ n) → waiting ≡ length (to_undo n (reverse (map record_of_placed xs)))) →
    rollback + (waiting + 1) ≡ need_of log t.number
need_running log t xs waiting rollback h same none is count =
    let own : (x : Placed) → IsAmong xs x → x.cell.transaction ≡ t.number = λ x m. own_transaction log t h x (subst (λ ys. IsAmong ys x) same m) in
    let stack : waiting ≡ length (to_undo t.number log) = count t.number own ∙ ap (λ ys. length (to_undo t.number (reverse (map record_of_placed ys)))) same
    ∙ ap (λ rs. length (to_undo t.number rs)) h.records ∙ ap length (stack_of_records t.number log) in
    let running : list_any (λ (x : Placed). x.cell.kind == 4) t.records ≡ false = ap (list_any (λ (x : Placed). x.cell.kind == 4)) (sym same) ∙ none in
    let rolled : rollback ≡ (if list_any (λ (x : Placed). x.cell.kind == 3) t.records then 0 else 1) = is ∙ ap (λ ys. if list_any (λ (x : Placed). x.cell.kind == 3) ys then 0 else 1) same in
    rw (kind_of_any log t 4 (omega arith) h, running, kind_of_any log t 3 (omega arith) h)
    (ap (λ n. n + (waiting + 1)) rolled ∙ ap (λ n. (if list_any (λ (x : Placed). x.cell.kind == 3) t.records then 0 else 1) + (n + 1)) stack)
