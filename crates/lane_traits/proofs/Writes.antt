-- What a list of writes leaves, and the same list with each word once.
use Rattle.std.proofs.Common.{◌≡◌, ◌≢◌, ◌⊎◌, inl, inr, ⊎_elim, ℕ, zero, suc, ◌+◌, ◌<◌, ◌≤◌, Bool, true, false, ◌||◌, List, [], ◌∷◌, ◌++◌, length, take, get_or, Some, None, if◌then◌else◌, ◌==◌, cond, not, refl, sym, ◌∙◌, ap, subst, arith, slice_set, ltb-false}
use Rattle.std.specs.List.{position, position_or_len, list_any}
use Rattle.std.proofs.lemmas.Bool.Decides.{eqb_tells}
use Rattle.std.proofs.lemmas.List.{take_more}
use Rattle.std.proofs.lemmas.List.Quantifiers.{position-Some}
use Rattle.persist_model.specs.Region.{Words}
use Rattle.persist_model.specs.Records.{IsAmong}
use Rattle.persist_model.specs.Chain.{HasNoRepeats, IsAbsent}
use Rattle.lane_traits.specs.Space.{put_word}
use Rattle.lane_traits.specs.declared.draft.WordWrite.{WordWrite}
use Rattle.lane_traits.specs.Draft.{addresses, has_address, after_writes, noted, noted_all, last_writes}
use Rattle.lane_traits.proofs.Among.{same_eq, apart_eq, absent_of, of_absent}

pub put_same : (a v : ℕ) (w : Words) → put_word a v w a ≡ v
put_same a v w = let on : (a == a) ≡ true = same_eq a in rw on refl

pub put_other : (a v b : ℕ) (w : Words) → b ≢ a → put_word a v w b ≡ w b
put_other a v b w ne = let off : (b == a) ≡ false = apart_eq b a ne in rw off refl

pub after_writes-last : (log : List WordWrite) (x : WordWrite) (w : Words) → after_writes (log ++ x ∷ []) w ≡ put_word x.address x.value (after_writes log w)
after_writes-last [] x w = refl
after_writes-last (y ∷ log) x w = after_writes-last log x (put_word y.address y.value w)

-- one write more
pub latest_here : (log : List WordWrite) (i a : ℕ) (d : WordWrite) (w : Words) → i < length log → (get_or log i d).address ≡ a
    → after_writes (take (i + 1) log) w a ≡ (get_or log i d).value
latest_here log i a d w within same =
    let x = get_or log i d in
    ap (λ (xs : List WordWrite). after_writes xs w a) (take_more log i d within)
    ∙ ap (λ (u : Words). u a) (after_writes-last (take i log) x w)
    ∙ subst (λ b. put_word b x.value (after_writes (take i log) w) a ≡ x.value) (sym same) (put_same a x.value (after_writes (take i log) w))

pub latest_there : (log : List WordWrite) (i a : ℕ) (d : WordWrite) (w : Words) → i < length log → (get_or log i d).address ≢ a
    → after_writes (take (i + 1) log) w a ≡ after_writes (take i log) w a
latest_there log i a d w within apart =
    let x = get_or log i d in
    ap (λ (xs : List WordWrite). after_writes xs w a) (take_more log i d within)
    ∙ ap (λ (u : Words). u a) (after_writes-last (take i log) x w)
    ∙ put_other x.address x.value a (after_writes (take i log) w) (λ e. apart (sym e))

-- ---- where a write is noted

none_from_long : (p : WordWrite → Bool) (xs : List WordWrite) → length xs ≤ position_or_len p xs → list_any p xs ≡ false
none_from_long p [] long = refl
none_from_long p (x ∷ xs) long =
    (elim (p x) as (λ b. suc (length xs) ≤ cond (not b) (1 + position_or_len p xs) 0 → (b || list_any p xs) ≡ false) [
      | true ↦ (λ h. absurd (omega arith))
      | false ↦ (λ h. none_from_long p xs (omega arith))
    ]) long

some_is_not : (b : Bool) (i : ℕ) → cond b (Some i) None ≡ None → b ≡ false
some_is_not true i e = cc
some_is_not false i e = refl

none_at : (p : WordWrite → Bool) (xs : List WordWrite) → position p xs ≡ None → list_any p xs ≡ false
none_at p xs none = none_from_long p xs (ltb-false _ _ (some_is_not _ _ none))

noted_at_end : (x : WordWrite) (log : List WordWrite) → list_any (has_address x.address) log ≡ false → noted x log ≡ log ++ x ∷ []
noted_at_end x [] none = refl
noted_at_end x (y ∷ log) none = step (has_address x.address y) (noted_at_end x log) none
  where
    step : (b : Bool) → (list_any (has_address x.address) log ≡ false → noted x log ≡ log ++ x ∷ []) → (b || list_any (has_address x.address) log) ≡ false
        → (if b then x ∷ log else y ∷ noted x log) ≡ y ∷ (log ++ x ∷ [])
    step true again h = absurd (true_not_false h)
      where
        true_not_false : true ≡ false → ⊥
        true_not_false e = cc
    step false again h = ap (λ zs. y ∷ zs) (again h)

pub noted_none : (x : WordWrite) (a : ℕ) (log : List WordWrite) → x.address ≡ a → position (has_address a) log ≡ None → noted x log ≡ log ++ x ∷ []
noted_none x a log same none = noted_at_end x log (none_at (has_address x.address) log (ap (λ b. position (has_address b) log) same ∙ none))

noted_at : (x : WordWrite) (log : List WordWrite) (j : ℕ) → j < length log → has_address x.address (get_or log j x) ≡ true
    → ((k : ℕ) → k < j → has_address x.address (get_or log k x) ≡ false) → noted x log ≡ slice_set log j x
noted_at x [] j within here before = absurd (omega arith)
noted_at x (y ∷ log) zero within here before = rw here refl
noted_at x (y ∷ log) (suc j) within here before =
    let off : has_address x.address y ≡ false = before 0 (omega arith) in
    rw off (ap (λ zs. y ∷ zs) (noted_at x log j (omega arith) here (λ k less. before (suc k) (omega arith))))

pub noted_some : (x : WordWrite) (a j : ℕ) (log : List WordWrite) → x.address ≡ a → position (has_address a) log ≡ Some j → (j < length log) × (noted x log ≡ slice_set log j x)
noted_some x a j log same some =
    let first = position-Some (has_address x.address) log j x (ap (λ b. position (has_address b) log) same ∙ some) in
    (first.0, noted_at x log j first.0 first.1 first.2)

-- ---- each word once

after_writes_at : (log : List WordWrite) (w u : Words) (a : ℕ) → w a ≡ u a → after_writes log w a ≡ after_writes log u a
after_writes_at [] w u a same = same
after_writes_at (x ∷ log) w u a same = after_writes_at log (put_word x.address x.value w) (put_word x.address x.value u) a
    (step (a == x.address))
  where
    step : (b : Bool) → (if b then x.value else w a) ≡ (if b then x.value else u a)
    step true = refl
    step false = same

untouched : (log : List WordWrite) (w : Words) (a : ℕ) → (IsAmong (addresses log) a → ⊥) → after_writes log w a ≡ w a
untouched [] w a absent = refl
untouched (x ∷ log) w a absent =
    untouched log (put_word x.address x.value w) a (λ h. absent (inr h)) ∙ put_other x.address x.value a w (λ e. absent (inl e))

-- among words that stand once each, noting a write is making it
noted_writes : (x : WordWrite) (kept : List WordWrite) (w : Words) (a : ℕ) → HasNoRepeats (addresses kept)
    → after_writes (noted x kept) w a ≡ put_word x.address x.value (after_writes kept w) a
noted_writes x [] w a once = refl
noted_writes x (y ∷ kept) w a once = step (y.address == x.address) (eqb_tells y.address x.address)
    (noted_writes x kept (put_word y.address y.value w) a once.1)
  where
    at_same : y.address ≡ x.address → after_writes kept (put_word x.address x.value w) a
        ≡ put_word x.address x.value (after_writes kept (put_word y.address y.value w)) a
    at_same e = ⊎_elim
        (λ same. let here : a ≡ x.address = same.1 in
        untouched kept (put_word x.address x.value w) a (λ h. of_absent (addresses kept) y.address once.0 (subst (IsAmong (addresses kept)) (here ∙ sym e) h))
        ∙ subst (λ b. put_word x.address x.value w b ≡ put_word x.address x.value (after_writes kept (put_word y.address y.value w)) b) (sym here)
        (put_same x.address x.value w ∙ sym (put_same x.address x.value (after_writes kept (put_word y.address y.value w)))))
        (λ other.
        after_writes_at kept (put_word x.address x.value w) (put_word y.address y.value w) a
        (put_other x.address x.value a w other.1 ∙ sym (put_other y.address y.value a w (λ f. other.1 (f ∙ e))))
        ∙ sym (put_other x.address x.value a (after_writes kept (put_word y.address y.value w)) other.1))
        (eqb_tells a x.address)

    step : (b : Bool) → ((b ≡ true) × (y.address ≡ x.address)) ⊎ ((b ≡ false) × (y.address ≢ x.address))
        → after_writes (noted x kept) (put_word y.address y.value w) a ≡ put_word x.address x.value (after_writes kept (put_word y.address y.value w)) a
        → after_writes (if b then x ∷ kept else y ∷ noted x kept) w a ≡ put_word x.address x.value (after_writes kept (put_word y.address y.value w)) a
    step true tells again = ⊎_elim (λ same. at_same same.1) (λ other. absurd (let e = other.0 in cc)) tells
    step false tells again = again

noted_among : (x : WordWrite) (kept : List WordWrite) (a : ℕ) → IsAmong (addresses (noted x kept)) a → IsAmong (addresses kept) a ⊎ (a ≡ x.address)
noted_among x [] a (inl e) = inr e
noted_among x [] a (inr h) = absurd h
noted_among x (y ∷ kept) a h = step (y.address == x.address) (noted_among x kept a) h
  where
    step : (b : Bool) → (IsAmong (addresses (noted x kept)) a → IsAmong (addresses kept) a ⊎ (a ≡ x.address))
        → IsAmong (addresses (if b then x ∷ kept else y ∷ noted x kept)) a → IsAmong (addresses (y ∷ kept)) a ⊎ (a ≡ x.address)
    step true again (inl e) = inr e
    step true again (inr k) = inl (inr k)
    step false again (inl e) = inl (inl e)
    step false again (inr k) = ⊎_elim (λ m. inl (inr m)) (λ e. inr e) (again k)

noted_once : (x : WordWrite) (kept : List WordWrite) → HasNoRepeats (addresses kept) → HasNoRepeats (addresses (noted x kept))
noted_once x [] once = (tt, tt)
noted_once x (y ∷ kept) once = step (y.address == x.address) (eqb_tells y.address x.address) (noted_once x kept once.1)
  where
    step : (b : Bool) → ((b ≡ true) × (y.address ≡ x.address)) ⊎ ((b ≡ false) × (y.address ≢ x.address)) → HasNoRepeats (addresses (noted x kept))
        → HasNoRepeats (addresses (if b then x ∷ kept else y ∷ noted x kept))
    step true tells again = ⊎_elim
        (λ same. (subst (λ c. IsAbsent c (addresses kept)) same.1 once.0, once.1))
        (λ other. absurd (let e = other.0 in cc))
        tells
    step false tells again = ⊎_elim
        (λ same. absurd (let e = same.0 in cc))
        (λ other. (
          absent_of (addresses (noted x kept)) y.address
              (λ h. ⊎_elim (of_absent (addresses kept) y.address once.0) other.1 (noted_among x kept y.address h)),
          again,
        ))
        tells

noted_length : (x : WordWrite) (kept : List WordWrite) → length (noted x kept) ≤ 1 + length kept
noted_length x [] = omega arith
noted_length x (y ∷ kept) = step (y.address == x.address) (noted_length x kept)
  where
    step : (b : Bool) → length (noted x kept) ≤ 1 + length kept → length (if b then x ∷ kept else y ∷ noted x kept) ≤ 1 + length (y ∷ kept)
    step true again = omega arith
    step false again = omega arith

noted_all_once : (kept log : List WordWrite) → HasNoRepeats (addresses kept) → HasNoRepeats (addresses (noted_all kept log))
noted_all_once kept [] once = once
noted_all_once kept (x ∷ log) once = noted_all_once (noted x kept) log (noted_once x kept once)

noted_all_writes : (kept log : List WordWrite) (w : Words) (a : ℕ) → HasNoRepeats (addresses kept)
    → after_writes (noted_all kept log) w a ≡ after_writes log (after_writes kept w) a
noted_all_writes kept [] w a once = refl
noted_all_writes kept (x ∷ log) w a once =
    noted_all_writes (noted x kept) log w a (noted_once x kept once)
    ∙ after_writes_at log (after_writes (noted x kept) w) (put_word x.address x.value (after_writes kept w)) a (noted_writes x kept w a once)

noted_all_among : (kept log : List WordWrite) (a : ℕ) → IsAmong (addresses (noted_all kept log)) a → IsAmong (addresses kept) a ⊎ IsAmong (addresses log) a
noted_all_among kept [] a h = inl h
noted_all_among kept (x ∷ log) a h = ⊎_elim
    (λ k. ⊎_elim (λ m. inl m) (λ e. inr (inl e)) (noted_among x kept a k))
    (λ k. inr (inr k))
    (noted_all_among (noted x kept) log a h)

noted_all_length : (kept log : List WordWrite) → length (noted_all kept log) ≤ length kept + length log
noted_all_length kept [] = omega arith
noted_all_length kept (x ∷ log) =
    let again = noted_all_length (noted x kept) log in let one = noted_length x kept in omega (arith, again, one)

pub last_writes-once : (log : List WordWrite) → HasNoRepeats (addresses (last_writes log))
last_writes-once log = noted_all_once [] log tt

pub last_writes-writes : (log : List WordWrite) (w : Words) → after_writes (last_writes log) w ≡ after_writes log w
last_writes-writes log w = λ i a. noted_all_writes [] log w a tt i

pub last_writes-among : (log : List WordWrite) (a : ℕ) → IsAmong (addresses (last_writes log)) a → IsAmong (addresses log) a
last_writes-among log a h = ⊎_elim (λ k. absurd k) (λ k. k) (noted_all_among [] log a h)

pub last_writes-length : (log : List WordWrite) → length (last_writes log) ≤ length log
last_writes-length log = let e = noted_all_length [] log in omega (arith, e)
