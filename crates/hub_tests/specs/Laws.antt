-- Two counters are in agreement.
use Rattle.std.proofs.Common.{◌≡◌, ◌≢◌, ⊎_elim, ℕ, zero, suc, ◌-◌, ◌/◌, ◌%◌, ◌^◌, ◌<◌, nat_lt, ◌==◌, Bool, true, false, not, Option, Some, None, refl, sym, ap, subst, unwrap_or, ltb-true, div-lt_iff_lt-mul, zero-lt-suc}
use Rattle.std.specs.Prelude.{if◌then◌else◌}
use Rattle.std.proofs.Math.Nat.{sub-zero, zero-div}
use Rattle.std.proofs.lemmas.Bool.{and_parts}
use Rattle.std.proofs.lemmas.Bool.Decides.{eqb_tells}
use Rattle.lane_types.specs.Heaps.{is_data, has_bit}
use Rattle.lane_types.specs.Seen.{AreInAgreement}
use Rattle.hub_tests.specs.declared.counter.Counter.{Counter}
use Rattle.hub_tests.specs.Counter.{small_heap, word_of}
use Rattle.hub_tests.specs.Counters.{seen_of, counter_at, word_at}

abbrev IsNothing : Option ℕ → Type 0
IsNothing None = Unit {0}
IsNothing (Some v) = ⊥

not_some : (v : ℕ) → None ≡ Some v → ⊥
not_some v e = subst IsNothing e tt

-- the word is the one at this address
tells : (n word a v : ℕ) → (if a == n then Some word else None) ≡ Some v → (a ≡ n) × (word ≡ v)
tells n word a v e = ⊎_elim
    (λ (t : ((a == n) ≡ true) × (a ≡ n)). (t.1, ap (λ o. unwrap_or o 0) (subst (λ (b : Bool). (if b then Some word else None) ≡ Some v) t.0 e)))
    (λ (t : ((a == n) ≡ false) × (a ≢ n)). absurd (not_some v (subst (λ (b : Bool). (if b then Some word else None) ≡ Some v) t.0 e)))
    (eqb_tells a n)

data_word : (l word a v : ℕ) → word_of l word a ≡ Some v → is_data small_heap a ≡ true
data_word zero word a v e = subst (λ (n : ℕ). is_data small_heap n ≡ true) (sym (tells 1 word a v e).0) refl
data_word (suc zero) word a v e = subst (λ (n : ℕ). is_data small_heap n ≡ true) (sym (tells 2 word a v e).0) refl
data_word (suc (suc n)) word a v e = absurd (not_some v e)

value_there : (first second : Counter) (l a v : ℕ) → word_of l (counter_at first second l).word a ≡ Some v → word_at first second a ≡ v
value_there first second zero a v e = let t = tells 1 first.word a v e in subst (λ (n : ℕ). word_at first second n ≡ v) (sym t.0) t.1
value_there first second (suc zero) a v e = let t = tells 2 second.word a v e in subst (λ (n : ℕ). word_at first second n ≡ v) (sym t.0) t.1
value_there first second (suc (suc n)) a v e = absurd (not_some v e)

inside_span : (a : ℕ) → is_data small_heap a ≡ true → a < 16
inside_span a e =
    let low = and_parts (not (nat_lt a 0)) _ e in
    let below = and_parts (nat_lt ((a - 0) / 16) 1) _ low.1 in
    subst (λ (n : ℕ). n < 16) (sub-zero a) ((div-lt_iff_lt-mul {k = 16} {x = a - 0} {y = 1} (zero-lt-suc 15)).0 (ltb-true ((a - 0) / 16) 1 below.0))

no_bit : (n : ℕ) → has_bit 0 n ≡ false
no_bit n = ap (λ (x : ℕ). (x % 2) == 1) (zero-div (2 ^ n))

elsewhere : (w w' l k a v : ℕ) → l ≢ k → word_of l w a ≡ Some v → word_of k w' a ≡ None
elsewhere w w' zero zero a v ne e = absurd (ne refl)
elsewhere w w' zero (suc zero) a v ne e = subst (λ (n : ℕ). word_of 1 w' n ≡ None) (sym (tells 1 w a v e).0) refl
elsewhere w w' (suc zero) zero a v ne e = subst (λ (n : ℕ). word_of 0 w' n ≡ None) (sym (tells 2 w a v e).0) refl
elsewhere w w' (suc zero) (suc zero) a v ne e = absurd (ne refl)
elsewhere w w' zero (suc (suc n)) a v ne e = refl
elsewhere w w' (suc zero) (suc (suc n)) a v ne e = refl
elsewhere w w' (suc (suc n)) k a v ne e = absurd (not_some v e)

pub agreement : (first second : Counter) (last : Option ℕ) → AreInAgreement (seen_of first second last)
agreement first second last = record {
  base = λ l k. refl;
  inside = λ l a e. inside_span a e;
  data_words = λ l a v e. data_word l (counter_at first second l).word a v e;
  values = λ l a v e. value_there first second l a v e;
  structures_apart = λ l k n ne below e. no_bit n;
  words_apart = λ l k a v ne e. elsewhere (counter_at first second l).word (counter_at first second k).word l k a v ne e;
}
