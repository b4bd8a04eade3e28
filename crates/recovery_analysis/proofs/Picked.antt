-- Transactions that are picked one by one.
use Rattle.std.proofs.Common.{◌≡◌, ◌⊎◌, ◌↔◌, inl, inr, ℕ, zero, suc, ◌+◌, ◌<◌, ◌≤◌, Bool, true, false, not, if◌then◌else◌, List, [], ◌∷◌, ◌++◌, length, map, take, get_or, refl, sym, ap, ◌∙◌, subst, arith, append-nil}
use Rattle.std.specs.Prelude.{IsTrue}
use Rattle.std.proofs.Math.Seq.{take-suc}
use Rattle.std.proofs.lemmas.List.{map-append}
use Rattle.persist_model.specs.Records.{Log, IsAmong, Has, IsOf, IsEnded, IsRunning, IsCommitted, IsSkipped, IsLoser}
use Rattle.log_laws.proofs.Deciding.{ended_or_running}
use Rattle.persist_model.proofs.Among.{among_left, among_right, among_append}
use Rattle.recovery_analysis.specs.declared.grouping.Transaction.{Transaction}
use Rattle.recovery_analysis.specs.Grouping.{IsAscending, number_of, IsTransactionOf, AreTransactionsOf}
use Rattle.recovery_analysis.specs.Analyses.{AreThose, IsUnskipped}
use Rattle.recovery_analysis.proofs.Lists.{among_at, map_among, among_map, ascending_push}
use Rattle.recovery_analysis.proofs.Fated.{take_whole}

-- of the first i transactions those that have P
abbrev pub ArePicked : (ℕ → Type 0) → List Transaction → ℕ → List ℕ → Type 0
ArePicked P all i found = AreThose (λ n. IsAmong (map number_of (take i all)) n × P n) found

pub picked_begins : (P : ℕ → Type 0) (all : List Transaction) (found : List ℕ) → found ≡ [] → ArePicked P all 0 found
picked_begins P all found none = subst (ArePicked P all 0) (sym none) (record { ascending = tt; each = λ n. ((λ m. absurd m), λ h. h.0) })

names_more : (all : List Transaction) (i : ℕ) (d : Transaction) → i < length all → map number_of (take (i + 1) all) ≡ map number_of (take i all) ++ (get_or all i d).number ∷ []
names_more all i d lt =
    let e : i + 1 ≡ suc i = omega arith in
    ap (λ n. map number_of (take n all)) e ∙ ap (map number_of) (take-suc all i d lt) ∙ map-append number_of (take i all) (get_or all i d ∷ [])

-- the numbers of the first are below the next
names_below : (all : List Transaction) (i : ℕ) (d : Transaction) → IsAscending (map number_of all) → i < length all → (n : ℕ) → IsAmong (map number_of (take i all)) n → n < (get_or all i d).number
names_below all zero d up lt n m = absurd m
names_below [] (suc i) d up lt n m = absurd (omega (arith, lt))
names_below (t ∷ all) (suc i) d up lt n (inl e) = let below : i < length all = omega (arith, lt) in let k = up.0 (get_or all i d).number (map_among number_of all (get_or all i d) (among_at all i d below)) in omega (arith, k, e)
names_below (t ∷ all) (suc i) d up lt n (inr m) = names_below all i d up.1 (omega (arith, lt)) n m

pub picked_more : (P : ℕ → Type 0) (all : List Transaction) (i : ℕ) (t : Transaction) (found later : List ℕ) (wanted : Bool) → IsAscending (map number_of all) → i < length all →
    get_or all i t ≡ t → (IsTrue wanted ↔ P t.number) → later ≡ found ++ (if wanted then t.number ∷ [] else []) → ArePicked P all i found → ArePicked P all (i + 1) later
picked_more P all i t found later wanted up lt is says more h = subst (ArePicked P all (i + 1)) (sym more) (by wanted says)
  where
    names : map number_of (take (i + 1) all) ≡ map number_of (take i all) ++ t.number ∷ []
    names = names_more all i t lt ∙ ap (λ (u : Transaction). map number_of (take i all) ++ u.number ∷ []) is

    below : (n : ℕ) → IsAmong (map number_of (take i all)) n → n < t.number
    below n m = subst (λ (u : Transaction). n < u.number) is (names_below all i t up lt n m)

    before : (n : ℕ) → IsAmong (map number_of (take i all)) n → IsAmong (map number_of (take (i + 1) all)) n
    before n m = subst (λ ns. IsAmong ns n) (sym names) (among_left (map number_of (take i all)) (t.number ∷ []) n m)

    here : IsAmong (map number_of (take (i + 1) all)) t.number
    here = subst (λ ns. IsAmong ns t.number) (sym names) (among_right (map number_of (take i all)) (t.number ∷ []) t.number (inl refl))

    back : (n : ℕ) → IsAmong (map number_of (take (i + 1) all)) n → IsAmong (map number_of (take i all)) n ⊎ (n ≡ t.number)
    back n m = elim (among_append (map number_of (take i all)) (t.number ∷ []) n (subst (λ ns. IsAmong ns n) names m)) [ inl k ↦ inl k | inr k ↦ elim k [ inl e ↦ inr e | inr z ↦ absurd z ] ]

    by : (b : Bool) → (IsTrue b ↔ P t.number) → ArePicked P all (i + 1) (found ++ (if b then t.number ∷ [] else []))
    by true says = record {
      ascending = ascending_push found t.number h.ascending (λ n m. below n ((h.each n).0 m).0);
      each = λ n. (
        (λ m. elim (among_append found (t.number ∷ []) n m) [
          | inl k ↦ (let z = (h.each n).0 k in (before n z.0, z.1))
          | inr k ↦ elim k [ inl e ↦ (subst (IsAmong (map number_of (take (i + 1) all))) (sym e) here, subst P (sym e) (says.0 refl)) | inr z ↦ absurd z ]
        ]),
        (λ z. elim (back n z.0) [
          | inl k ↦ among_left found (t.number ∷ []) n ((h.each n).1 (k, z.1))
          | inr e ↦ among_right found (t.number ∷ []) n (inl e)
        ]),
      );
    }
    by false says = subst (ArePicked P all (i + 1)) (sym (append-nil found)) (record {
      ascending = h.ascending;
      each = λ n. (
        (λ m. (let z = (h.each n).0 m in (before n z.0, z.1))),
        (λ z. elim (back n z.0) [
          | inl k ↦ (h.each n).1 (k, z.1)
          | inr e ↦ (let on : false ≡ true = says.1 (subst P e z.1) in cc)
        ]),
      );
    })

-- where each that has P is a transaction
pub picked_ends : (P Q : ℕ → Type 0) (all : List Transaction) (i : ℕ) (found : List ℕ) → length all ≤ i → ((n : ℕ) → IsAmong (map number_of all) n → P n → Q n) →
    ((n : ℕ) → Q n → IsAmong (map number_of all) n × P n) → ArePicked P all i found → AreThose Q found
picked_ends P Q all i found le on back h = record {
  ascending = h.ascending;
  each = λ n. (
    (λ m. (let k = (h.each n).0 m in on n (subst (λ ts. IsAmong (map number_of ts) n) (take_whole i all le) k.0) k.1)),
    (λ q. (let k = back n q in (h.each n).1 (subst (λ ts. IsAmong (map number_of ts) n) (sym (take_whole i all le)) k.0, k.1))),
  );
}

-- ---- the three lists

pub at_one : (log : Log) (all : List Transaction) (i : ℕ) (t : Transaction) → AreTransactionsOf log all → i < length all → get_or all i t ≡ t → IsTransactionOf log t
at_one log all i t h lt is = h.each t (subst (IsAmong all) is (among_at all i t lt))

of_end : (t : ℕ) (log : Log) → IsEnded log t → Has (IsOf t) log
of_end t log h = (h.0, h.1, (h.2.1, λ five. (let four = h.2.0 in absurd (omega (arith, four, five)))))

pub winners_end : (log : Log) (all : List Transaction) (i : ℕ) (found : List ℕ) → AreTransactionsOf log all → length all ≤ i → ArePicked (IsCommitted log) all i found → AreThose (IsCommitted log) found
winners_end log all i found h le picked = picked_ends (IsCommitted log) (IsCommitted log) all i found le (λ n m p. p) (λ n q. (h.whole n (of_end n log (q.0, q.1, q.2.0)), q)) picked

pub losers_end : (log : Log) (all : List Transaction) (i : ℕ) (found : List ℕ) → AreTransactionsOf log all → length all ≤ i → ArePicked (IsRunning log) all i found → AreThose (IsLoser log) found
losers_end log all i found h le picked = picked_ends (IsRunning log) (IsLoser log) all i found le
    (λ n m p. (let k = among_map number_of all n m in (subst (λ x. Has (IsOf x) log) (sym k.2) (h.each k.0 k.1).some, p)))
    (λ n q. (h.whole n q.0, q.1)) picked

pub unskipped_end : (log : Log) (all : List Transaction) (i : ℕ) (found : List ℕ) → AreTransactionsOf log all → length all ≤ i → ArePicked (IsUnskipped log) all i found → AreThose (IsUnskipped log) found
unskipped_end log all i found h le picked = picked_ends (IsUnskipped log) (IsUnskipped log) all i found le (λ n m p. p) (λ n q. (h.whole n (of_end n log q.0), q)) picked

pub running_is_none : (log : Log) (n : ℕ) (running : Bool) → running ≡ true → (IsTrue running ↔ IsRunning log n) → IsTrue false ↔ IsUnskipped log n
running_is_none log n running on says = ((λ z. cc), (λ u. absurd (says.0 on u.0.0 u.0.1 u.0.2)))

pub unskipped_is : (log : Log) (n : ℕ) (running skipped : Bool) → running ≡ false → (IsTrue running ↔ IsRunning log n) → (IsTrue skipped ↔ IsSkipped log n) →
    IsTrue (not skipped) ↔ IsUnskipped log n
unskipped_is log n running skipped off run skip = (forth skipped skip, back skipped skip)
  where
    ended : IsEnded log n
    ended = elim (ended_or_running log n) [ inl e ↦ e | inr r ↦ (let z : false ≡ true = sym off ∙ run.1 r in cc) ]

    forth : (s : Bool) → (IsTrue s ↔ IsSkipped log n) → IsTrue (not s) → IsUnskipped log n
    forth true skip on = cc
    forth false skip on = (ended, λ k. (let z : false ≡ true = skip.1 k in cc))

    back : (s : Bool) → (IsTrue s ↔ IsSkipped log n) → IsUnskipped log n → IsTrue (not s)
    back true skip u = absurd (u.1 (skip.0 refl))
    back false skip u = refl
