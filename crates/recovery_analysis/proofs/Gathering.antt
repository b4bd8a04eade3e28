-- Gates, open transactions and the next number, as they are read.
use Rattle.std.proofs.Common.{◌≡◌, ◌↔◌, inl, inr, ℕ, suc, ◌+◌, ◌-◌, ◌<◌, ◌≤◌, Bool, true, false, cond, not, ◌==◌, ◌||◌, if◌then◌else◌, List, [], ◌∷◌, ◌++◌, length, map, reverse, take, get_or, refl, sym, ap, ◌∙◌, subst, arith}
use Rattle.std.specs.Prelude.{IsTrue}
use Rattle.std.specs.List.{filter}
use Rattle.std.proofs.Math.Seq.{take-suc}
use Rattle.std.proofs.lemmas.List.{map-append, reverse-append}
use Rattle.std.proofs.lemmas.List.Elements.{filter-append}
use Rattle.std.proofs.lemmas.Bool.Decides.{eqb_tells}
use Rattle.persist_model.specs.Records.{Log, IsAmong, IsSkipped}
use Rattle.persist_model.specs.State.{HasOpen}
use Rattle.log_clearing.specs.Closed.{IsListed}
use Rattle.recovery_run.specs.Groups.{ListsAll}
use Rattle.bucket_log.specs.declared.scanning.Placed.{Placed}
use Rattle.bucket_log.specs.Scans.{record_of_placed}
use Rattle.persist_model.proofs.Among.{among_append}
use Rattle.recovery_analysis.specs.declared.grouping.Transaction.{Transaction}
use Rattle.recovery_analysis.specs.Grouping.{number_of, IsTransactionOf, AreTransactionsOf}
use Rattle.recovery_analysis.specs.Works.{next_lsn}
use Rattle.recovery_analysis.proofs.Lists.{map_among, among_map, reverse_among, among_reverse, filter_among, among_filter}
use Rattle.recovery_analysis.proofs.Fated.{eq_true, true_eq, take_whole}

-- ---- the gates

abbrev pub place : Placed → ℕ
place x = x.at

abbrev pub is_plain : Placed → Bool
is_plain x = not ((x.cell.kind == 4) || (x.cell.kind == 5))

abbrev pub is_last : Placed → Bool
is_last x = x.cell.kind == 4

abbrev pub is_mark : Placed → Bool
is_mark x = x.cell.kind == 5

-- the gates of these records, in their groups
pub record HasGates (xs : List Placed) (gates ends checkpoints : List ℕ) : Type 0 where
  pub plain : gates ≡ map place (filter is_plain xs)
  pub last : ends ≡ map place (filter is_last xs)
  pub marks : checkpoints ≡ map place (filter is_mark xs)

filter_step : (p : Placed → Bool) (xs : List Placed) (i : ℕ) (d : Placed) → i < length xs →
    map place (filter p (take (i + 1) xs)) ≡ map place (filter p (take i xs)) ++ (if p (get_or xs i d) then (get_or xs i d).at ∷ [] else [])
filter_step p xs i d lt =
    let e : i + 1 ≡ suc i = omega arith in
    ap (λ n. map place (filter p (take n xs))) e ∙ ap (λ ys. map place (filter p ys)) (take-suc xs i d lt) ∙ ap (map place) (filter-append p (take i xs) (get_or xs i d ∷ []))
    ∙ map-append place (filter p (take i xs)) (filter p (get_or xs i d ∷ [])) ∙ ap (λ cs. map place (filter p (take i xs)) ++ cs) (one (p (get_or xs i d)))
  where
    one : (b : Bool) → map place (cond b (get_or xs i d ∷ []) []) ≡ (if b then (get_or xs i d).at ∷ [] else [])
    one true = refl
    one false = refl

pub gates_more : (xs : List Placed) (i : ℕ) (d : Placed) (gates ends checkpoints gates' ends' checkpoints' : List ℕ) → i < length xs → HasGates (take i xs) gates ends checkpoints →
    gates' ≡ gates ++ (if ((get_or xs i d).cell.kind == 4) || ((get_or xs i d).cell.kind == 5) then [] else (get_or xs i d).at ∷ []) →
    ends' ≡ ends ++ (if (get_or xs i d).cell.kind == 4 then (get_or xs i d).at ∷ [] else []) →
    checkpoints' ≡ checkpoints ++ (if (get_or xs i d).cell.kind == 5 then (get_or xs i d).at ∷ [] else []) → HasGates (take (i + 1) xs) gates' ends' checkpoints'
gates_more xs i d gates ends checkpoints gates' ends' checkpoints' lt h a b c = record {
  plain = a ∙ ap (λ cs. cs ++ (if ((get_or xs i d).cell.kind == 4) || ((get_or xs i d).cell.kind == 5) then [] else (get_or xs i d).at ∷ [])) h.plain
      ∙ ap (λ cs. map place (filter is_plain (take i xs)) ++ cs) (turn (((get_or xs i d).cell.kind == 4) || ((get_or xs i d).cell.kind == 5))) ∙ sym (filter_step is_plain xs i d lt);
  last = b ∙ ap (λ cs. cs ++ (if (get_or xs i d).cell.kind == 4 then (get_or xs i d).at ∷ [] else [])) h.last ∙ sym (filter_step is_last xs i d lt);
  marks = c ∙ ap (λ cs. cs ++ (if (get_or xs i d).cell.kind == 5 then (get_or xs i d).at ∷ [] else [])) h.marks ∙ sym (filter_step is_mark xs i d lt);
}
  where
    turn : (t : Bool) → (if t then [] else (get_or xs i d).at ∷ []) ≡ (if not t then (get_or xs i d).at ∷ [] else [])
    turn true = refl
    turn false = refl

-- a record is in one of the groups
one_group : (k : ℕ) → (if not ((k == 4) || (k == 5)) then 1 else 0) + (if k == 4 then 1 else 0) + (if k == 5 then 1 else 0) ≡ 1
one_group k = elim (eqb_tells k 4) [
  | inl four ↦ (let on = four.0 in let off : (k == 5) ≡ false = four_not_five k four.1 in rw (on, off) refl)
  | inr no_four ↦ elim (eqb_tells k 5) [
    | inl five ↦ (let off = no_four.0 in let on = five.0 in rw (off, on) refl)
    | inr no_five ↦ (let off = no_four.0 in let none = no_five.0 in rw (off, none) refl)
  ]
]
  where
    four_not_five : (k : ℕ) → k ≡ 4 → (k == 5) ≡ false
    four_not_five k e = ap (λ n. n == 5) e

filter_length : (p : Placed → Bool) (x : Placed) (xs : List Placed) → length (filter p (x ∷ xs)) ≡ (if p x then 1 else 0) + length (filter p xs)
filter_length p x xs = by_test (p x)
  where
    by_test : (b : Bool) → length (if b then x ∷ filter p xs else filter p xs) ≡ (if b then 1 else 0) + length (filter p xs)
    by_test true = omega arith
    by_test false = omega arith

groups_count : (xs : List Placed) → length (filter is_plain xs) + length (filter is_last xs) + length (filter is_mark xs) ≡ length xs
groups_count [] = refl
groups_count (x ∷ xs) =
    let again = groups_count xs in
    let a = filter_length is_plain x xs in
    let b = filter_length is_last x xs in
    let c = filter_length is_mark x xs in
    let one = one_group x.cell.kind in
    omega (arith, again, a, b, c, one)

places_count : (xs : List Placed) → length (map place xs) ≡ length xs
places_count [] = refl
places_count (x ∷ xs) = ap suc (places_count xs)

pub gates_count : (xs : List Placed) (i : ℕ) (gates ends checkpoints : List ℕ) → length xs ≤ i → HasGates (take i xs) gates ends checkpoints → length gates + length ends + length checkpoints ≡ length xs
gates_count xs i gates ends checkpoints le h =
    let whole = groups_count (take i xs) in
    let all : length (take i xs) ≡ length xs = ap length (take_whole i xs le) in
    let a : length gates ≡ length (filter is_plain (take i xs)) = ap length h.plain ∙ places_count (filter is_plain (take i xs)) in
    let b : length ends ≡ length (filter is_last (take i xs)) = ap length h.last ∙ places_count (filter is_last (take i xs)) in
    let c : length checkpoints ≡ length (filter is_mark (take i xs)) = ap length h.marks ∙ places_count (filter is_mark (take i xs)) in
    omega (arith, whole, all, a, b, c)

pub gates_begin : (xs : List Placed) (gates ends checkpoints : List ℕ) → gates ≡ [] → ends ≡ [] → checkpoints ≡ [] → HasGates (take 0 xs) gates ends checkpoints
gates_begin xs gates ends checkpoints a b c = record { plain = a; last = b; marks = c }

pub gates_whole : (xs : List Placed) (i : ℕ) (gates ends checkpoints : List ℕ) → length xs ≤ i → HasGates (take i xs) gates ends checkpoints → ListsAll (reverse (map record_of_placed xs)) gates ends checkpoints
gates_whole xs i gates ends checkpoints le h = lists (subst (λ ys. HasGates ys gates ends checkpoints) (take_whole i xs le) h)
  where
    log : Log
    log = reverse (map record_of_placed xs)

    in_log : (x : Placed) → IsAmong xs x → IsAmong log (record_of_placed x)
    in_log x m = reverse_among (map record_of_placed xs) (record_of_placed x) (map_among record_of_placed xs x m)

    clash : (b : Bool) → b ≡ true → b ≡ false → ⊥
    clash b p q = cc

    neither : (a b : Bool) → not (a || b) ≡ true → (a ≡ false) × (b ≡ false)
    neither true b e = cc
    neither false true e = cc
    neither false false e = (refl, refl)

    not_either : (a b : Bool) → a ≡ false → b ≡ false → not (a || b) ≡ true
    not_either a b e k = ap (λ x. not (x || b)) e ∙ ap (λ x. not x) k

    found : (p : Placed → Bool) (ys : List ℕ) (a : ℕ) → ys ≡ map place (filter p xs) → IsAmong ys a → (x : Placed) × IsAmong xs x × (p x ≡ true) × (x.at ≡ a)
    found p ys a is m =
        let k = among_map place (filter p xs) a (subst (λ zs. IsAmong zs a) is m) in
        let j = filter_among p xs k.0 k.1 in
        (k.0, j.0, j.1, sym k.2)

    listed : (p : Placed → Bool) (ys : List ℕ) (x : Placed) → ys ≡ map place (filter p xs) → IsAmong xs x → p x ≡ true → IsAmong ys x.at
    listed p ys x is m on = subst (λ zs. IsAmong zs x.at) (sym is) (map_among place (filter p xs) x (among_filter p xs x m on))

    lists : HasGates xs gates ends checkpoints → ListsAll log gates ends checkpoints
    lists h = record {
      groups = record {
        of_gates = λ a m. (let k = found is_plain gates a h.plain m in
            let off = neither (k.0.cell.kind == 4) (k.0.cell.kind == 5) k.2 in
            (record_of_placed k.0, in_log k.0 k.1, (k.3, (λ four. clash (k.0.cell.kind == 4) (true_eq k.0.cell.kind 4 four) off.0), (λ five. clash (k.0.cell.kind == 5) (true_eq k.0.cell.kind 5 five) off.1))));
        of_ends = λ a m. (let k = found is_last ends a h.last m in (record_of_placed k.0, in_log k.0 k.1, (k.3, eq_true k.0.cell.kind 4 k.2)));
        of_checkpoints = λ a m. (let k = found is_mark checkpoints a h.marks m in (record_of_placed k.0, in_log k.0 k.1, (k.3, eq_true k.0.cell.kind 5 k.2)));
      };
      each = λ r m. (let k = among_map record_of_placed xs r (among_reverse (map record_of_placed xs) r m) in
          subst (IsListed gates ends checkpoints) (sym k.2) (one k.0 k.1));
    }
      where
        one : (x : Placed) → IsAmong xs x → IsListed gates ends checkpoints (record_of_placed x)
        one x m = elim (eqb_tells x.cell.kind 4) [
          | inl four ↦ inr (inl (listed is_last ends x h.last m four.0))
          | inr no_four ↦ elim (eqb_tells x.cell.kind 5) [
            | inl five ↦ inr (inr (listed is_mark checkpoints x h.marks m five.0))
            | inr no_five ↦ inl (listed is_plain gates x h.plain m (not_either (x.cell.kind == 4) (x.cell.kind == 5) no_four.0 no_five.0))
          ]
        ]

-- ---- open transactions

pub open_found : (log : Log) (t : Transaction) (skipped : Bool) → IsTransactionOf log t → skipped ≡ false → (IsTrue skipped ↔ IsSkipped log t.number) → IsTrue true ↔ HasOpen log
open_found log t skipped h off says = (
  (λ on. (h.some.0, h.some.1, (h.some.2.1, λ k. (let z : false ≡ true = sym off ∙ says.1 (subst (IsSkipped log) h.some.2.0 k) in cc)))),
  (λ o. refl),
)

pub open_none : (log : Log) (all : List Transaction) (i : ℕ) → AreTransactionsOf log all → length all ≤ i → ((t : Transaction) → IsAmong (take i all) t → IsSkipped log t.number) → IsTrue false ↔ HasOpen log
open_none log all i h le skipped = (
  (λ on. cc),
  (λ o. (let k = among_map number_of all o.0.transaction (h.whole o.0.transaction (o.0, o.1, (refl, o.2.0))) in
      absurd (o.2.1 (subst (IsSkipped log) (sym k.2) (skipped k.0 (subst (λ ts. IsAmong ts k.0) (sym (take_whole i all le)) k.1)))))),
)

pub skipped_more : (log : Log) (all : List Transaction) (i : ℕ) (t : Transaction) (skipped : Bool) → i < length all → get_or all i t ≡ t → skipped ≡ true → (IsTrue skipped ↔ IsSkipped log t.number) →
    ((u : Transaction) → IsAmong (take i all) u → IsSkipped log u.number) → (u : Transaction) → IsAmong (take (i + 1) all) u → IsSkipped log u.number
skipped_more log all i t skipped lt is on says before u m =
    let e : i + 1 ≡ suc i = omega arith in
    let more : take (i + 1) all ≡ take i all ++ t ∷ [] = ap (λ n. take n all) e ∙ take-suc all i t lt ∙ ap (λ v. take i all ++ v ∷ []) is in
    elim (among_append (take i all) (t ∷ []) u (subst (λ ts. IsAmong ts u) more m)) [
      | inl k ↦ before u k
      | inr k ↦ elim k [ inl same ↦ subst (λ (v : Transaction). IsSkipped log v.number) (sym same) (says.0 on) | inr z ↦ absurd z ]
    ]

-- ---- the next number

last_is : (xs : List Placed) (d : Placed) → 0 < length xs → (front : List Placed) × (xs ≡ front ++ get_or xs (length xs - 1) d ∷ [])
last_is [] d lt = absurd (omega (arith, lt))
last_is (x ∷ []) d lt = ([], refl)
last_is (x ∷ y ∷ ys) d lt =
    let k = last_is (y ∷ ys) d (omega arith) in
    let e : length (x ∷ y ∷ ys) - 1 ≡ suc (length (y ∷ ys) - 1) = omega arith in
    (x ∷ k.0, ap (λ zs. x ∷ zs) k.1 ∙ ap (λ n. x ∷ (k.0 ++ get_or (x ∷ y ∷ ys) n d ∷ [])) (sym e))

pub next_is : (xs : List Placed) (d : Placed) → 0 < length xs → (get_or xs (length xs - 1) d).cell.lsn + 1 ≡ next_lsn (reverse (map record_of_placed xs))
next_is xs d lt =
    let k = last_is xs d lt in
    sym (ap (λ ys. next_lsn (reverse (map record_of_placed ys))) k.1 ∙ ap (λ l. next_lsn (reverse l)) (map-append record_of_placed k.0 (get_or xs (length xs - 1) d ∷ []))
    ∙ ap next_lsn (reverse-append (map record_of_placed k.0) (record_of_placed (get_or xs (length xs - 1) d) ∷ [])))

pub next_none : (xs : List Placed) → xs ≡ [] → 1 ≡ next_lsn (reverse (map record_of_placed xs))
next_none xs e = sym (ap (λ ys. next_lsn (reverse (map record_of_placed ys))) e)
