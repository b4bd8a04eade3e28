-- Digits that are read one by one.
use Rattle.std.proofs.Common.{◌≡◌, ℕ, zero, suc, ◌+◌, ◌*◌, ◌<◌, ◌≤◌, ◌^◌, List, [], ◌∷◌, length, get_or, drop, refl, sym, ◌∙◌, ap, arith, cond, Option, Some, None, le-ltb, lt-ltb, length-drop}
use Rattle.std.specs.Char.{digit_value, is_digit}
use Rattle.std.proofs.lemmas.List.{nil_from_length}
use Rattle.std.proofs.Math.Nat.{mul-le-mul, pow-suc, pow-le-pow_right}
use Rattle.image_text.specs.Text.{spelled}

pub spelled-next : (base n k : ℕ) (word : List ℕ) → k < length word
    → spelled base n (drop k word) ≡ cond (is_digit (get_or word k 0) base) (spelled base (n * base + digit_value (get_or word k 0)) (drop (suc k) word)) None
unfolding spelled
spelled-next base n zero [] h = absurd (omega arith)
spelled-next base n zero (c ∷ word) h = refl
spelled-next base n (suc k) [] h = absurd (omega arith)
spelled-next base n (suc k) (c ∷ word) h = spelled-next base n k word (omega arith)

-- one more digit
pub spelled-on : (base n k digit number : ℕ) (word : List ℕ) (total : Option ℕ) → k < length word → digit_value (get_or word k 0) < base
    → digit ≡ digit_value (get_or word k 0) → number ≡ n * base + digit → spelled base n (drop k word) ≡ total → spelled base number (drop (k + 1) word) ≡ total
spelled-on base n k digit number word total within is_digit digit_is number_is so_far =
    let next : suc k ≡ k + 1 = omega arith in
    ap (λ m. spelled base m (drop (k + 1) word)) (number_is ∙ ap (λ d. n * base + d) digit_is)
    ∙ ap (λ j. spelled base (n * base + digit_value (get_or word k 0)) (drop j word)) (sym next)
    ∙ sym (spelled-next base n k word within ∙ ap (λ b. cond b (spelled base (n * base + digit_value (get_or word k 0)) (drop (suc k) word)) None) (lt-ltb _ _ is_digit))
    ∙ so_far

-- no digit
pub spelled-off : (base n k : ℕ) (word : List ℕ) (total : Option ℕ) → k < length word → (digit_value (get_or word k 0) < base → ⊥)
    → spelled base n (drop k word) ≡ total → None ≡ total
spelled-off base n k word total within none so_far =
    sym (spelled-next base n k word within ∙ ap (λ b. cond b (spelled base (n * base + digit_value (get_or word k 0)) (drop (suc k) word)) None) (le-ltb _ _ (omega (arith, none))))
    ∙ so_far

pub spelled-done : (base n k : ℕ) (word : List ℕ) → length word ≤ k → spelled base n (drop k word) ≡ Some n
unfolding spelled
spelled-done base n k word past = ap (spelled base n) (nil_from_length (drop k word) (omega (arith, length-drop k word)))

-- one more digit of a base up to 16 makes a number at most 16 times as great
pub grown : (base n k digit : ℕ) → base ≤ 16 → digit < base → n < 16 ^ k → n * base + digit < 16 ^ (k + 1)
grown base n k digit small is_digit within =
    let next : suc k ≡ k + 1 = omega arith in
    omega (arith, ap (λ j. 16 ^ j) next, pow-suc 16 k, mul-le-mul {n₁ = n} {m₁ = base} {n₂ = n} {m₂ = 16} (omega arith) small)

pub fits : (k : ℕ) → k ≤ 16 → 16 ^ k ≤ 2 ^ 64
fits k small = pow-le-pow_right {n = 16} (omega arith) {i = k} {j = 16} small
