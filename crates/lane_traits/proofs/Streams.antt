-- The faults of the sources and sinks in memory rise with each call that fails.
use Rattle.std.proofs.Common.{◌≡◌, ℕ, ◌+◌, ◌-◌, ◌^◌, ◌<◌, ◌≤◌, Bool, true, false, cond, ◌&&◌, List, [], ◌∷◌, length, filter, take, drop, ◌++◌, Some, min, ◌==◌, ◌||◌, refl, sym, ◌∙◌, ap, arith}
use Rattle.std.specs.Prelude.{nat_lt}
use Rattle.std.specs.List.{list_any}
use Rattle.std.proofs.lemmas.Bool.{ltb-true, eqb-true}
use Rattle.std.proofs.lemmas.Bool.Decides.{nat_tests}
use Rattle.lane_traits.specs.Stream.{failed_calls, is_to_fail, Gives}
use Rattle.lane_traits.specs.Device.{counted}
use Rattle.std.proofs.lemmas.List.{nil_from_length, take-append-drop, take-append-le, take_all, drop-drop, length-take-le}

counted-first : (n : ℕ) (fail : List ℕ) (b : Bool) → length (cond b (n ∷ fail) fail) ≡ cond b 1 0 + length fail
counted-first n fail true = omega arith
counted-first n fail false = omega arith

failed_calls-cons : (n : ℕ) (fail : List ℕ) (calls : ℕ) → failed_calls (n ∷ fail) calls ≡ cond (nat_lt n calls) 1 0 + failed_calls fail calls
failed_calls-cons n fail calls = counted-first n (filter (λ k. nat_lt k calls) fail) (nat_lt n calls)

lt-mono : (n calls later : ℕ) → calls ≤ later → cond (nat_lt n calls) 1 0 ≤ cond (nat_lt n later) 1 0
lt-mono n calls later le = grind (arith, nat_tests)

pub failed_calls-mono : (fail : List ℕ) (calls later : ℕ) → calls ≤ later → failed_calls fail calls ≤ failed_calls fail later
failed_calls-mono [] calls later le = omega arith
failed_calls-mono (n ∷ fail) calls later le =
    omega (arith, failed_calls-cons n fail calls, failed_calls-cons n fail later, lt-mono n calls later le, failed_calls-mono fail calls later le)

lt-rise : (n call : ℕ) → n ≡ call → cond (nat_lt n call) 1 0 + 1 ≤ cond (nat_lt n (call + 1)) 1 0
lt-rise n call same = grind (arith, nat_tests)

rises : (fail : List ℕ) (call : ℕ) → list_any (λ n. n == call) fail ≡ true → failed_calls fail call + 1 ≤ failed_calls fail (call + 1)
rises [] call listed = absurd (cc)
rises (n ∷ fail) call listed =
    (elim (n == call) as (λ b. (n == call) ≡ b → (b || list_any (λ k. k == call) fail) ≡ true → failed_calls (n ∷ fail) call + 1 ≤ failed_calls (n ∷ fail) (call + 1)) [
      | true ↦ (λ same _. omega (arith, failed_calls-cons n fail call, failed_calls-cons n fail (call + 1), lt-rise n call (eqb-true n call same), failed_calls-mono fail call (call + 1) (omega arith)))
      | false ↦ (λ _ later. omega (arith, failed_calls-cons n fail call, failed_calls-cons n fail (call + 1), lt-mono n call (call + 1) (omega arith), rises fail call later))
    ]) refl listed

right : (a b : Bool) → (a && b) ≡ true → b ≡ true
right true b both = both
right false b both = absurd (cc)

left : (a b : Bool) → (a && b) ≡ true → a ≡ true
left true b both = refl
left false b both = both

pub failed_calls-rise : (fail : List ℕ) (call : ℕ) → is_to_fail fail call ≡ true → failed_calls fail call + 1 ≤ failed_calls fail (call + 1)
failed_calls-rise fail call listed = rises fail call (right _ _ listed)

pub is_to_fail-below : (fail : List ℕ) (call : ℕ) → is_to_fail fail call ≡ true → call < 2 ^ 64 - 1
is_to_fail-below fail call listed = ltb-true call (2 ^ 64 - 1) (left _ _ listed)

-- a count that stands still at the largest number of 64 bits
pub failed_calls-counted : (fail : List ℕ) (calls : ℕ) → calls < 2 ^ 64 → failed_calls fail calls ≤ failed_calls fail (counted calls)
failed_calls-counted fail calls fits = failed_calls-mono fail calls (counted calls) (omega arith)

-- what a read puts in front of a buffer
pub gives_next : (text buffer given : List ℕ) (at n : ℕ) → at ≤ length text → given ≡ take n (drop at text) → n ≡ min (length buffer) (length (drop at text)) → 0 < length buffer
    → Gives n (drop at text) (given ++ drop n buffer) (Some (drop (at + n) text))
gives_next text buffer given at n within front count room =
    let all : take n (drop at text) ++ drop n (drop at text) ≡ drop at text = take-append-drop n (drop at text) in
    let long : length given ≡ n = ap length front ∙ length-take-le n (drop at text) (omega arith) in
    record {
      rest = drop (at + n) text;
      whole = sym (ap (λ front_bytes. front_bytes ++ drop (at + n) text)
          (take-append-le n given (drop n buffer) (omega arith) ∙ take_all n given (omega arith) ∙ front)
          ∙ ap (λ rest. take n (drop at text) ++ rest) (sym (drop-drop n at text)) ∙ all);
      rest_left = refl;
      at_end = λ none. nil_from_length _ (omega arith);
    }

pub ruleset counting = (failed_calls-mono, failed_calls-rise, is_to_fail-below)
