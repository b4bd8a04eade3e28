-- The changes that are to be stored are those of a redo pass.
use Rattle.std.proofs.Common.{◌≡◌, ◌⊎◌, ◌↔◌, inl, inr, ℕ, zero, suc, ◌+◌, ◌<◌, ◌≤◌, Bool, true, false, cond, ◌==◌, ◌&&◌, ◌||◌, if◌then◌else◌, List, [], ◌∷◌, ◌++◌, length, map, reverse, take, get_or, Ok, Err, refl, sym, ap, ◌∙◌, subst, arith, append_assoc}
use Rattle.std.specs.Prelude.{Result, is_ok}
use Rattle.std.specs.List.{list_any, filter}
use Rattle.std.specs.List.Sorted.{IsBinarySearchResult}
use Rattle.std.specs.Ordering.{nat_cmp}
use Rattle.std.proofs.Math.Seq.{take-suc}
use Rattle.std.proofs.lemmas.List.{map-append}
use Rattle.std.proofs.lemmas.List.Elements.{filter-append}
use Rattle.std.proofs.lemmas.List.Sorted.{searched}
use Rattle.persist_model.specs.Region.{Words}
use Rattle.persist_model.specs.Records.{Log, IsAmong, IsCommitted}
use Rattle.persist_model.specs.Standing.{IsToRedo, IsToDelete}
use Rattle.log_laws.specs.Recovery.{AreApplied}
use Rattle.log_laws.proofs.Deciding.{IsDecided, decide_less, decide_to_redo, decide_to_delete}
use Rattle.log_laws.proofs.Growing.{Descends}
use Rattle.log_laws.proofs.Applying.{set_word, redone_words, deleted_words, passed_words, pass_applies}
use Rattle.bucket_log.specs.declared.scanning.Placed.{Placed}
use Rattle.bucket_log.specs.Scans.{record_of_placed}
use Rattle.persist_model.proofs.Among.{among_append}
use Rattle.recovery_run.specs.Reached.{with_value}
use Rattle.recovery_analysis.specs.declared.changing.Change.{Change}
use Rattle.recovery_analysis.specs.Grouping.{IsAscending}
use Rattle.recovery_analysis.specs.Analyses.{AreThose, IsUnskipped}
use Rattle.recovery_analysis.specs.Changes.{stored, AreRedone, has_number, is_redone, is_deleted, new_value, given_back}
use Rattle.recovery_analysis.proofs.Lists.{place_of, among_at, map_among, among_map, reverse-cons, reverse_among, filter_among}
use Rattle.recovery_analysis.proofs.Fated.{any_some, both_true, true_both, eq_true, true_eq, take_whole, or_cases}

-- ---- a search

any_true : {X : Type 0} (p : X → Bool) (xs : List X) (x : X) → IsAmong xs x → p x ≡ true → list_any p xs ≡ true
any_true p [] x m on = absurd m
any_true p (y ∷ ys) x (inl e) on = let z : p y ≡ true = ap p (sym e) ∙ on in ap (λ b. b || list_any p ys) z
any_true p (y ∷ ys) x (inr m) on = ap (λ b. p y || b) (any_true p ys x m on) ∙ or_right (p y)
  where
    or_right : (b : Bool) → (b || true) ≡ true
    or_right true = refl
    or_right false = refl

any_false : {X : Type 0} (p : X → Bool) (xs : List X) → ((x : X) → IsAmong xs x → p x ≡ true → ⊥) → list_any p xs ≡ false
any_false p xs none = by (list_any p xs) refl
  where
    by : (b : Bool) → list_any p xs ≡ b → list_any p xs ≡ false
    by true e = let k = any_some p xs e in absurd (none k.0 k.1 k.2)
    by false e = e

pub has_among : (numbers : List ℕ) (n : ℕ) → has_number numbers n ≡ true → IsAmong numbers n
has_among numbers n on = let k = any_some (λ m. m == n) numbers on in subst (IsAmong numbers) (eq_true k.0 n k.2) k.1

pub among_has : (numbers : List ℕ) (n : ℕ) → IsAmong numbers n → has_number numbers n ≡ true
among_has numbers n m = any_true (λ m. m == n) numbers n m (true_eq n n refl)

ascending_rises : (xs : List ℕ) → IsAscending xs → (i j : ℕ) → i ≤ j → j < length xs → get_or xs i 0 ≤ get_or xs j 0
ascending_rises [] up i j le lt = absurd (omega (arith, lt))
ascending_rises (x ∷ xs) up zero zero le lt = omega arith
ascending_rises (x ∷ xs) up zero (suc j) le lt = let k = up.0 (get_or xs j 0) (among_at xs j 0 (omega (arith, lt))) in omega (arith, k)
ascending_rises (x ∷ xs) up (suc i) zero le lt = absurd (omega (arith, le))
ascending_rises (x ∷ xs) up (suc i) (suc j) le lt = ascending_rises xs up.1 i j (omega (arith, le)) (omega (arith, lt))

at_default : (xs : List ℕ) (k d e : ℕ) → k < length xs → get_or xs k d ≡ get_or xs k e
at_default [] k d e lt = absurd (omega (arith, lt))
at_default (x ∷ xs) zero d e lt = refl
at_default (x ∷ xs) (suc k) d e lt = at_default xs k d e (omega (arith, lt))

pub search_is : (numbers : List ℕ) (n : ℕ) (r : Result ℕ ℕ) → IsAscending numbers → IsBinarySearchResult (λ y. nat_cmp y n) numbers r → is_ok r ≡ has_number numbers n
search_is numbers n (Ok i) up h = let k = searched numbers n (Ok i) h (ascending_rises numbers up) in
    sym (among_has numbers n (subst (IsAmong numbers) k.1 (among_at numbers i 0 k.0)))
search_is numbers n (Err i) up h = let k = searched numbers n (Err i) h (ascending_rises numbers up) in
    sym (any_false (λ m. m == n) numbers (λ m j on. (
    let place = place_of numbers m j in
    let at : get_or numbers place.0 0 ≡ n = at_default numbers place.0 0 m place.1 ∙ place.2 ∙ eq_true m n on in
    elim (split place.0 i) [
      | inl lt ↦ (let low = k.1 place.0 lt in omega (arith, low, at))
      | inr ge ↦ (let high = k.2 place.0 ge place.1 in omega (arith, high, at))
    ])))
  where
    split : (a b : ℕ) → (a < b) ⊎ (b ≤ a)
    split a b = elim (decide_less a b) [ inl lt ↦ inl lt | inr no_less ↦ inr (omega (arith, no_less)) ]

-- ---- the loops

pub changes_more : (f : Placed → Change) (p : Placed → Bool) (xs : List Placed) (i : ℕ) (d : Placed) (first before later : List Change) (wanted : Bool) → i < length xs →
    wanted ≡ p (get_or xs i d) → before ≡ first ++ map f (filter p (take i xs)) → later ≡ before ++ (if wanted then f (get_or xs i d) ∷ [] else []) →
    later ≡ first ++ map f (filter p (take (i + 1) xs))
changes_more f p xs i d first before later wanted lt is so_far more =
    let e : i + 1 ≡ suc i = omega arith in
    more ∙ ap (λ b. before ++ (if b then f (get_or xs i d) ∷ [] else [])) is ∙ ap (λ cs. cs ++ (if p (get_or xs i d) then f (get_or xs i d) ∷ [] else [])) so_far
    ∙ append_assoc first (map f (filter p (take i xs))) (if p (get_or xs i d) then f (get_or xs i d) ∷ [] else [])
    ∙ ap (λ cs. first ++ cs) (sym (ap (λ n. map f (filter p (take n xs))) e ∙ ap (λ ys. map f (filter p ys)) (take-suc xs i d lt)
    ∙ ap (map f) (filter-append p (take i xs) (get_or xs i d ∷ [])) ∙ map-append f (filter p (take i xs)) (filter p (get_or xs i d ∷ []))
    ∙ ap (λ cs. map f (filter p (take i xs)) ++ cs) (one (p (get_or xs i d)))))
  where
    one : (b : Bool) → map f (cond b (get_or xs i d ∷ []) []) ≡ (if b then f (get_or xs i d) ∷ [] else [])
    one true = refl
    one false = refl

pub changes_all : (f : Placed → Change) (p : Placed → Bool) (xs : List Placed) (i : ℕ) (first later : List Change) → length xs ≤ i →
    later ≡ first ++ map f (filter p (take i xs)) → later ≡ first ++ map f (filter p xs)
changes_all f p xs i first later le h = h ∙ ap (λ ys. first ++ map f (filter p ys)) (take_whole i xs le)

-- ---- what the tests say

pub redone_test : (policy : ℕ) (log : Log) (unskipped : List ℕ) (x : Placed) → AreThose (IsUnskipped log) unskipped →
    (is_redone policy unskipped x ≡ true) ↔ IsToRedo policy log x.cell.word (record_of_placed x)
redone_test policy log unskipped x h = (
  (λ on. (
      let a = both_true (policy == 2) (((x.cell.kind == 1) || (x.cell.kind == 2)) && has_number unskipped x.cell.transaction) on in
      let b = both_true ((x.cell.kind == 1) || (x.cell.kind == 2)) (has_number unskipped x.cell.transaction) a.1 in
      let u = (h.each x.cell.transaction).0 (has_among unskipped x.cell.transaction b.1) in (
        eq_true policy 2 a.0,
        elim (or_cases (x.cell.kind == 1) (x.cell.kind == 2) b.0) [ inl k ↦ inl (eq_true x.cell.kind 1 k) | inr k ↦ inr (eq_true x.cell.kind 2 k) ],
        refl,
        u.0,
        u.1,
      ))),
  (λ k. true_both (policy == 2) (((x.cell.kind == 1) || (x.cell.kind == 2)) && has_number unskipped x.cell.transaction) (true_eq policy 2 k.0)
      (true_both ((x.cell.kind == 1) || (x.cell.kind == 2)) (has_number unskipped x.cell.transaction)
      (elim k.1 [ inl one ↦ ap (λ b. b || (x.cell.kind == 2)) (true_eq x.cell.kind 1 one) | inr two ↦ ap (λ b. (x.cell.kind == 1) || b) (true_eq x.cell.kind 2 two) ∙ or_right (x.cell.kind == 1) ])
      (among_has unskipped x.cell.transaction ((h.each x.cell.transaction).1 (k.3, k.4))))),
)
  where
    or_right : (b : Bool) → (b || true) ≡ true
    or_right true = refl
    or_right false = refl

pub deleted_test : (log : Log) (winners : List ℕ) (x : Placed) → AreThose (IsCommitted log) winners → (is_deleted winners x ≡ true) ↔ IsToDelete log x.cell.word (record_of_placed x)
deleted_test log winners x h = (
  (λ on. (let a = both_true (x.cell.kind == 6) (has_number winners x.cell.transaction) on in
      (eq_true x.cell.kind 6 a.0, refl, (h.each x.cell.transaction).0 (has_among winners x.cell.transaction a.1)))),
  (λ k. true_both (x.cell.kind == 6) (has_number winners x.cell.transaction) (true_eq x.cell.kind 6 k.0)
      (among_has winners x.cell.transaction ((h.each x.cell.transaction).1 k.2))),
)

-- ---- the pass

redone-append : (policy : ℕ) (all front back : Log) (w : Words) → redone_words policy all (front ++ back) w ≡ redone_words policy all front (redone_words policy all back w)
redone-append policy all [] back w = refl
redone-append policy all (r ∷ front) back w =
    ap (λ (u : Words). elim (decide_to_redo policy all r.word r) as (λ _. Words) [ inl k ↦ set_word u r.word r.after | inr k ↦ u ]) (redone-append policy all front back w)

deleted-append : (all front back : Log) (w : Words) → deleted_words all (front ++ back) w ≡ deleted_words all front (deleted_words all back w)
deleted-append all [] back w = refl
deleted-append all (r ∷ front) back w =
    ap (λ (u : Words). elim (decide_to_delete all r.word r) as (λ _. Words) [ inl k ↦ set_word u r.word 0 | inr k ↦ u ]) (deleted-append all front back w)

decided_is : (P : Type 0) (t : Bool) (d : IsDecided P) (u w : Words) → ((t ≡ true) ↔ P) → (elim d as (λ _. Words) [ inl k ↦ u | inr k ↦ w ]) ≡ cond t u w
decided_is P true (inl k) u w says = refl
decided_is P true (inr k) u w says = absurd (k (says.0 refl))
decided_is P false (inl k) u w says = let z : false ≡ true = says.1 k in cc
decided_is P false (inr k) u w says = refl

stored_one : (t : Bool) (c : Change) (changes : List Change) (w : Words) → stored (cond t (c ∷ changes) changes) w ≡ stored changes (cond t (with_value w c.word c.value) w)
stored_one true c changes w = refl
stored_one false c changes w = refl

map_cond : (f : Placed → Change) (t : Bool) (x : Placed) (xs : List Placed) → map f (cond t (x ∷ xs) xs) ≡ cond t (f x ∷ map f xs) (map f xs)
map_cond f true x xs = refl
map_cond f false x xs = refl

redo_is : (policy : ℕ) (all : Log) (t : Placed → Bool) (xs : List Placed) (w : Words) → ((x : Placed) → (t x ≡ true) ↔ IsToRedo policy all x.cell.word (record_of_placed x)) →
    stored (map new_value (filter t xs)) w ≡ redone_words policy all (reverse (map record_of_placed xs)) w
redo_is policy all t [] w says = refl
redo_is policy all t (x ∷ xs) w says =
    ap (λ cs. stored cs w) (map_cond new_value (t x) x (filter t xs)) ∙ stored_one (t x) (new_value x) (map new_value (filter t xs)) w
    ∙ redo_is policy all t xs (cond (t x) (with_value w x.cell.word x.cell.after) w) says
    ∙ ap (redone_words policy all (reverse (map record_of_placed xs)))
    (sym (decided_is (IsToRedo policy all x.cell.word (record_of_placed x)) (t x) (decide_to_redo policy all x.cell.word (record_of_placed x)) (with_value w x.cell.word x.cell.after) w (says x)))
    ∙ sym (redone-append policy all (reverse (map record_of_placed xs)) (record_of_placed x ∷ []) w)
    ∙ ap (λ log. redone_words policy all log w) (sym (reverse-cons (record_of_placed x) (map record_of_placed xs)))

deletion_is : (all : Log) (t : Placed → Bool) (xs : List Placed) (w : Words) → ((x : Placed) → (t x ≡ true) ↔ IsToDelete all x.cell.word (record_of_placed x)) →
    stored (map given_back (filter t xs)) w ≡ deleted_words all (reverse (map record_of_placed xs)) w
deletion_is all t [] w says = refl
deletion_is all t (x ∷ xs) w says =
    ap (λ cs. stored cs w) (map_cond given_back (t x) x (filter t xs)) ∙ stored_one (t x) (given_back x) (map given_back (filter t xs)) w
    ∙ deletion_is all t xs (cond (t x) (with_value w x.cell.word 0) w) says
    ∙ ap (deleted_words all (reverse (map record_of_placed xs)))
    (sym (decided_is (IsToDelete all x.cell.word (record_of_placed x)) (t x) (decide_to_delete all x.cell.word (record_of_placed x)) (with_value w x.cell.word 0) w (says x)))
    ∙ sym (deleted-append all (reverse (map record_of_placed xs)) (record_of_placed x ∷ []) w)
    ∙ ap (λ log. deleted_words all log w) (sym (reverse-cons (record_of_placed x) (map record_of_placed xs)))

stored-append : (first second : List Change) (w : Words) → stored (first ++ second) w ≡ stored second (stored first w)
stored-append [] second w = refl
stored-append (c ∷ first) second w = stored-append first second (with_value w c.word c.value)

pub redo_done : (policy : ℕ) (log : Log) (merged : List Placed) (unskipped winners : List ℕ) (changes : List Change) → reverse (map record_of_placed merged) ≡ log → Descends log →
    AreThose (IsUnskipped log) unskipped → AreThose (IsCommitted log) winners →
    changes ≡ map new_value (filter (is_redone policy unskipped) merged) ++ map given_back (filter (is_deleted winners) merged) → AreRedone policy log changes
redo_done policy log merged unskipped winners changes log_is falls ended won is = record {
  applied = λ w. subst (AreApplied policy log) (sym (whole w)) (pass_applies policy log w falls);
  covered = λ c m. elim (among_append (map new_value (filter (is_redone policy unskipped) merged)) (map given_back (filter (is_deleted winners) merged)) c (subst (λ cs. IsAmong cs c) is m)) [
    | inl k ↦ (let x = among_map new_value (filter (is_redone policy unskipped) merged) c k in
        let h = filter_among (is_redone policy unskipped) merged x.0 x.1 in
        inr (inr (record_of_placed x.0, in_log x.0 h.0, subst (λ (d : Change). IsToRedo policy log d.word (record_of_placed x.0)) (sym x.2) ((redone_test policy log unskipped x.0 ended).0 h.1))))
    | inr k ↦ (let x = among_map given_back (filter (is_deleted winners) merged) c k in
        let h = filter_among (is_deleted winners) merged x.0 x.1 in
        inr (inl (record_of_placed x.0, in_log x.0 h.0, subst (λ (d : Change). IsToDelete log d.word (record_of_placed x.0)) (sym x.2) ((deleted_test log winners x.0 won).0 h.1))))
  ];
}
  where
    in_log : (x : Placed) → IsAmong merged x → IsAmong log (record_of_placed x)
    in_log x m = subst (λ rs. IsAmong rs (record_of_placed x)) log_is (reverse_among (map record_of_placed merged) (record_of_placed x) (map_among record_of_placed merged x m))

    whole : (w : Words) → stored changes w ≡ passed_words policy log w
    whole w =
        ap (λ cs. stored cs w) is ∙ stored-append (map new_value (filter (is_redone policy unskipped) merged)) (map given_back (filter (is_deleted winners) merged)) w
        ∙ ap (stored (map given_back (filter (is_deleted winners) merged))) (redo_is policy log (is_redone policy unskipped) merged w (λ x. redone_test policy log unskipped x ended))
        ∙ deletion_is log (is_deleted winners) merged (redone_words policy log (reverse (map record_of_placed merged)) w) (λ x. deleted_test log winners x won)
        ∙ ap (λ l. deleted_words log l (redone_words policy log l w)) log_is
